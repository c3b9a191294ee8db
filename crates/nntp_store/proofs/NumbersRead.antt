-- The numbers of a group that are read are those that are written, and those that are written are read.
use Rattle.std.proofs.Common.{◌≡◌, ℕ, zero, suc, ◌+◌, ◌^◌, ◌<◌, Bool, true, false, not, cond, List, [], ◌∷◌, ◌++◌, Option, Some, Result, Ok, Err, length, refl}
use Rattle.std.{proofs.{Common.{sym, ap, subst, ◌∙◌, append_assoc, length-append, arith}, lemmas.List.{append-nil, map-append}}, specs.Prelude.{map}}
use Rattle.std.specs.{Ordering.{nat_cmp}, Cmp.{nat_cmp_total}, FinMap.{empty, entries, insert, len, len-entries, same_entries_map}}
use Rattle.nntp_wire.specs.Decided.{is_message_id}
use Rattle.nntp_article.specs.{Article.Parts.{Line}, Session.{Spool.{Numbers}, Machine.{is_article_number}}}
use Rattle.nntp_content.{specs.{Ascending.{is_last}, Numbers.{has_id}, Inner.Content.{AreNumbers}}, proofs.MapEntries.{entries-empty, entries-insert_last}}
use Rattle.nntp_content.proofs.MapEntries.{next_entry}
use Rattle.nntp_store.specs.{declared.text.read_fault.ReadFault.{ReadFault}, Text.{number_line}, Reading.{◌>>=◌, shaped, Place, line_at, next_line, number_in}}
use Rattle.nntp_store.{specs.{Reading.{number_at, numbers_at, repeat}, Fields.{fields_of, number_and_id}}, proofs.NumbersInOrder.{num_between, no_numbers}}
use Rattle.nntp_store.proofs.{NumbersInOrder.{one_more, Follows, follows, number_lines}, LineFields.{id-lacks, id-some, number_and_id-number_line}}
use Rattle.nntp_store.proofs.LineFields.{number_line-number_and_id}

-- the value of a step that did not fail
pub bind_ok : {A B : Type 0} (r : Result A ReadFault) (f : A → Result B ReadFault) (y : B) → (r >>= f) ≡ Ok y → (x : A) × (r ≡ Ok x) × (f x ≡ Ok y)
bind_ok r f y e = grind arith

-- tests that did not fail
pub unless_ok : {A : Type 0} (b : Bool) (d : ReadFault) (r : Result A ReadFault) (y : A) → cond (not b) (Err d) r ≡ Ok y → (b ≡ true) × (r ≡ Ok y)
unless_ok b d r y e = grind arith

pub fits_test : {A : Type 0} (b : Bool) (r : Result A ReadFault) (f : ReadFault) (y : A) → cond b r (Err f) ≡ Ok y → (b ≡ true) × (r ≡ Ok y)
fits_test b r f y e = grind arith

pub guard_ok : {A : Type 0} (b : Bool) (d : ReadFault) (r : Result A ReadFault) (y : A) → cond b (Err d) r ≡ Ok y → (b ≡ false) × (r ≡ Ok y)
guard_ok b d r y e = grind arith

pub shaped_ok : {A : Type 0} (line : ℕ) (o : Option A) (x : A) → shaped line o ≡ Ok x → o ≡ Some x
shaped_ok line o x e = grind arith

abbrev pub done : {A : Type 0} → A → Result A ReadFault
done x = Ok x

pub ok_is : {A : Type 0} (x y : A) → done x ≡ done y → x ≡ y
ok_is x y e = cc

-- ---- lines

pub line_takes : (p : Place) (x : Line × Place) → line_at p ≡ Ok x → p.segments ≡ x.0 ∷ x.1.segments
line_takes p x e = grind arith

-- a line is read where something stands behind it
pub line_again : (line : ℕ) (l : Line) (rest : List Line) → 0 < length rest → next_line line (l ∷ rest) ≡ done (l, record { line = line + 1; segments = rest })
line_again line l rest some = grind arith

-- what holds before each of so many steps, with as many to come, holds behind them
pub repeated : {S : Type 0} (step : S → Result S ReadFault) (I : ℕ → S → Type 0) → ((k : ℕ) (s t : S) → I (suc k) s → step s ≡ Ok t → I k t)
    → (count : ℕ) (s t : S) → I count s → repeat step count s ≡ Ok t → I 0 t
repeated step I next zero s t i e = subst (I 0) (ok_is s t e) i
repeated step I next (suc count) s t i e =
    let a = bind_ok (step s) (repeat step count) t e in
    repeated step I next count a.0 t (next count s a.0 i a.1) a.2

-- the line of one more item is the first of those that were left
pub one_line : {X : Type 0} (f : X → Line) (xs : List X) (x : X) (from to whole : List Line) → from ≡ f x ∷ to → map f xs ++ from ≡ whole → map f (xs ++ x ∷ []) ++ to ≡ whole
one_line f xs x from to whole first before = rw (map-append, append_assoc, ← first) before

-- ---- one number

pub num_below : (limit n : ℕ) → limit < 2 ^ 64 → is_article_number limit n ≡ true → n < 2 ^ 64
num_below limit n le h = omega (arith, (num_between limit n h).1)

number_in_again : (limit line n : ℕ) (id : List ℕ) → limit < 2 ^ 64 → is_article_number limit n ≡ true → is_message_id id ≡ true → number_in limit line (number_line n id) ≡ Ok (n, id)
unfolding number_in
number_in_again limit line n id le num is_id = grind (arith, number_and_id-number_line n id (num_below limit n le num), num_below limit n le num, id-lacks 32 id, id-some id is_id)

number_in_takes : (limit line : ℕ) (l : List ℕ) (x : ℕ × List ℕ) → limit < 2 ^ 64 → number_in limit line l ≡ Ok x
    → (l ≡ number_line x.0 x.1) × (is_article_number limit x.0 ≡ true) × (is_message_id x.1 ≡ true)
unfolding number_in
number_in_takes limit line l x le e =
    let a = bind_ok (shaped line (number_and_id (fields_of l))) _ x e in
    let b = unless_ok (is_article_number limit a.0.0) _ _ x a.2 in
    let c = unless_ok (is_message_id a.0.1) _ _ x b.1 in
    let text = number_line-number_and_id l a.0.0 a.0.1 (num_below limit a.0.0 le b.0) (shaped_ok line _ a.0 a.1) in
    rw (← ok_is a.0 x c.1) (text, b.0, c.0)

number_at_again : (limit line n : ℕ) (id : List ℕ) (rest : List Line) (N : Numbers) → limit < 2 ^ 64 → Follows limit N n id → 0 < length rest
    → number_at limit (N, record { line = line; segments = number_line n id ∷ rest }) ≡ Ok (insert N n id, record { line = line + 1; segments = rest })
unfolding number_at
number_at_again limit line n id rest N le f some = rw (line_again line (number_line n id) rest some, number_in_again limit line n id le f.num f.is_id, f.last, f.fresh) refl

-- ---- the numbers of a group

-- these numbers were read of the lines, and so many are to come
record NumbersRead (limit count : ℕ) (lines : List Line) (left : ℕ) (s : Numbers × Place) : Type 0 where
  are_numbers : AreNumbers limit s.0
  segments : number_lines (entries s.0) ++ s.1.segments ≡ lines
  counted : length (entries s.0) + left ≡ count

number_takes : (limit count : ℕ) (lines : List Line) → limit < 2 ^ 64 → (left : ℕ) (s t : Numbers × Place) → NumbersRead limit count lines (suc left) s
    → number_at limit s ≡ Ok t → NumbersRead limit count lines left t
unfolding number_at
number_takes limit count lines le left s t r e =
    let a = bind_ok (line_at s.1) _ t e in
    let b = bind_ok (number_in limit s.1.line a.0.0) _ t a.2 in
    let c = unless_ok (is_last s.0 b.0.0) _ _ t b.2 in
    let d = guard_ok (has_id s.0 b.0.1) _ _ t c.1 in
    let one = number_in_takes limit s.1.line a.0.0 b.0 le b.1 in
    let listed = entries-insert_last nat_cmp_total s.0 b.0.0 b.0.1 c.0 in
    let first = line_takes s.1 a.0 a.1 ∙ ap (λ (l : Line). l ∷ a.0.1.segments) one.0 in
    rw (← ok_is (insert s.0 b.0.0 b.0.1, a.0.1) t d.1) (record {
      are_numbers = one_more limit s.0 b.0.0 b.0.1 r.are_numbers one.1 one.2 d.0;
      segments = rw listed (one_line (λ e. number_line e.0 e.1) (entries s.0) b.0 s.1.segments a.0.1.segments lines first r.segments);
      counted = rw listed (omega (arith, r.counted, length-append (entries s.0) (b.0 ∷ [])));
    })

pub numbers_take : (limit count : ℕ) (p : Place) (x : Numbers × Place) → limit < 2 ^ 64 → numbers_at limit count p ≡ Ok x
    → AreNumbers limit x.0 × (p.segments ≡ number_lines (entries x.0) ++ x.1.segments) × (count ≡ len x.0)
numbers_take limit count p x le e =
    let none = entries-empty {X = List ℕ} {R = nat_cmp} empty refl in
    let start : NumbersRead limit count p.segments count (empty, p) = record { are_numbers = no_numbers limit; segments = rw none refl; counted = rw none (omega arith) } in
    let all = repeated (number_at limit) (NumbersRead limit count p.segments) (number_takes limit count p.segments le) count (empty, p) x start e in
    (all.are_numbers, sym all.segments, omega (arith, all.counted, len-entries x.0))

-- numbers behind those before them, up to those of a whole group
pub numbers_again : (limit line : ℕ) (N M : Numbers) (es : List (ℕ × List ℕ)) (rest : List Line) → limit < 2 ^ 64 → AreNumbers limit M → 0 < length rest → entries M ≡ entries N ++ es
    → (end : ℕ) × (repeat (number_at limit) (length es) (N, record { line = line; segments = number_lines es ++ rest }) ≡ Ok (M, record { line = end; segments = rest }))
numbers_again limit line N M [] rest le are some is =
    (line, ap (λ (K : Numbers). done (K, record { line = line; segments = rest })) (same_entries_map N M (sym (is ∙ append-nil (entries N)))))
numbers_again limit line N M (x ∷ es) rest le are some is =
    grind (arith, number_at_again, follows, length-append, next_entry, nat_cmp_total, numbers_again limit (line + 1) (insert N x.0 x.1) M es rest le are some (next_entry nat_cmp_total N M x es is).2)
