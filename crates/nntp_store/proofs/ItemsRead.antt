-- A group and an article that are read are those that are written, and those that are written are read.
use Rattle.std.proofs.Common.{◌≡◌, ℕ, ◌+◌, ◌^◌, ◌<◌, Bool, true, false, List, [], ◌∷◌, ◌++◌, Ok, length, refl, sym, ap, ◌∙◌, append_assoc, length-append, arith}
use Rattle.std.proofs.{Common.{suc, Some}, lemmas.{Bool.{and_from, and_parts}, List.{append-nil, Concat.{flat_map-append}, Folds.{list_all-append}}}}
use Rattle.std.specs.{Cmp.Lexicographic.{nat_list_cmp_total}, FinMap.{empty, entries, len, len-entries}, List.{list_all, flat_map}, Prelude.{codes}}
use Rattle.nntp_wire.specs.Decided.{is_group_name, is_message_id}
use Rattle.nntp_article.specs.{Article.Parts.{Line, Id}, Session.Spool.{Name, Spool, Numbers, Text, is_line}}
use Rattle.nntp_content.specs.{Ascending.{is_last}, Content.{with_group, with_article, is_head_of, ids_have_articles}, Inner.Content.{IsContent, IsNamed}}
use Rattle.nntp_content.{specs.Inner.Content.{IsArticle}, proofs.MapEntries.{entries-empty, entries-insert_last}}
use Rattle.nntp_store.specs.{Fields.{OpeningValue, Group, Article, End, fields_of, opening_of, unbarred}, Reading.{shaped, Place, Turn, On, Done, line_at}}
use Rattle.nntp_store.specs.{Reading.{numbers_at, barred_lines_at, group_at, article_at, item_then, item_at, barred_line_at, repeat}, Text.{group_line}}
use Rattle.nntp_store.{specs.Text.{article_line, barred, group_lines, article_lines}, proofs.BuiltContent.{with_named, with_text}}
use Rattle.nntp_store.proofs.LineFields.{opening-group_line, opening-article_line, OpeningLine, opening_line, name-lacks, name-some, id-lacks, id-some}
use Rattle.nntp_store.proofs.{NumbersInOrder.{number_lines, few_numbers}, NumbersRead.{bind_ok, unless_ok, guard_ok, fits_test, shaped_ok, ok_is, line_takes}}
use Rattle.nntp_store.proofs.NumbersRead.{line_again, numbers_take, numbers_again, done, repeated, one_line}

-- ---- the lines of an article

unbarred_from : (l line : Line) → unbarred l ≡ Some line → (l ≡ 124 ∷ line) × (is_line line ≡ true)
unbarred_from l line e = grind arith

-- these lines were read, and so many are to come
record LinesRead (count : ℕ) (lines : List Line) (left : ℕ) (s : List Line × Place) : Type 0 where
  are_lines : list_all is_line s.0 ≡ true
  segments : barred s.0 ++ s.1.segments ≡ lines
  counted : length s.0 + left ≡ count

barred_line_takes : (count : ℕ) (lines : List Line) (left : ℕ) (s t : List Line × Place) → LinesRead count lines (suc left) s → barred_line_at s ≡ Ok t → LinesRead count lines left t
unfolding barred_line_at
barred_line_takes count lines left s t r e = grind (arith, bind_ok, unbarred_from, shaped_ok, line_takes, ok_is, list_all-append, and_from, one_line, length-append)

pub barred_lines_take : (count : ℕ) (p : Place) (x : List Line × Place) → barred_lines_at count p ≡ Ok x
    → (list_all is_line x.0 ≡ true) × (p.segments ≡ barred x.0 ++ x.1.segments) × (count ≡ length x.0)
barred_lines_take count p x e =
    let start : LinesRead count p.segments count ([], p) = record { are_lines = refl; segments = refl; counted = omega arith } in
    let all = repeated barred_line_at (LinesRead count p.segments) (barred_line_takes count p.segments) count ([], p) x start e in
    (all.are_lines, sym all.segments, omega (arith, all.counted))

barred_line_again : (line : ℕ) (l : Line) (rest ls : List Line) → is_line l ≡ true → 0 < length rest
    → barred_line_at (ls, record { line = line; segments = (124 ∷ l) ∷ rest }) ≡ Ok (ls ++ l ∷ [], record { line = line + 1; segments = rest })
unfolding barred_line_at
barred_line_again line l rest ls is some = rw (line_again line (124 ∷ l) rest some, is) refl

pub barred_lines_again : (line : ℕ) (more rest ls : List Line) → 0 < length rest → list_all is_line more ≡ true
    → (end : ℕ) × (repeat barred_line_at (length more) (ls, record { line = line; segments = barred more ++ rest }) ≡ Ok (ls ++ more, record { line = end; segments = rest }))
barred_lines_again line [] rest ls some h = (line, ap (λ (t : List Line). done (t, record { line = line; segments = rest })) (sym (append-nil ls)))
barred_lines_again line (l ∷ more) rest ls some h = grind (arith, and_parts, barred_line_again, length-append, append_assoc, barred_lines_again (line + 1) more rest (ls ++ l ∷ []) some)

-- ---- what was read

-- the lines of all groups and articles, and those behind them
abbrev pub lines_then : Spool → List Line → List Line
lines_then S behind = flat_map group_lines (entries S.groups) ++ (flat_map article_lines (entries S.articles) ++ behind)

-- one more item's lines
one_item : {X : Type 0} (f : X → List Line) (xs : List X) (x : X) (behind : List Line) → flat_map f (xs ++ x ∷ []) ++ behind ≡ flat_map f xs ++ (f x ++ behind)
one_item f xs x behind = rw (flat_map-append, append_assoc, append-nil) refl

-- so far groups and articles were read that a spool may hold, and no more than from these lines to those
pub record ReadOn (limit : ℕ) (S T : Spool) (from to : List Line) : Type 0 where
  pub content : IsContent limit T
  pub segments : lines_then S from ≡ lines_then T to

module _ (limit : ℕ) (le : limit < 2 ^ 64) (S : Spool) (content : IsContent limit S) where
  -- a group, where no article was read
  group_takes : (line : ℕ) (name : Name) (count : ℕ) (p : Place) (x : Spool × Place) → entries S.articles ≡ [] → group_at limit line name count S p ≡ Ok x
      → ReadOn limit S x.0 (group_line name count ∷ p.segments) x.1.segments × (entries x.0.articles ≡ [])
  unfolding group_at
  group_takes line name count p x none e =
      let a = unless_ok (is_group_name name) _ _ x e in
      let b = unless_ok (is_last S.groups name) _ _ x a.1 in
      let c = bind_ok (numbers_at limit count p) _ x b.1 in
      let N = c.0.0 in
      let taken = numbers_take limit count p c.0 le c.1 in
      let lines : group_line name count ∷ p.segments ≡ group_lines (name, N) ++ c.0.1.segments = λ i. group_line name (taken.2 i) ∷ taken.1 i in
      rw (← ok_is (with_group S name N, c.0.1) x c.2) (
        record {
          content = with_named limit S content name N (record { is_name = a.0; numbers = taken.0 });
          segments = rw (entries-insert_last nat_list_cmp_total S.groups name N b.0, none, lines) (sym (one_item group_lines (entries S.groups) (name, N) c.0.1.segments));
        },
        none,
      )

  -- or an article
  article_takes : (line : ℕ) (id : Id) (heads bodies : ℕ) (p : Place) (x : Spool × Place) → article_at line id heads bodies S p ≡ Ok x
      → ReadOn limit S x.0 (article_line id heads bodies ∷ p.segments) x.1.segments
  unfolding article_at
  article_takes line id heads bodies p x e =
      let a = unless_ok (is_message_id id) _ _ x e in
      let b = unless_ok (is_last S.articles id) _ _ x a.1 in
      let c = bind_ok (barred_lines_at heads p) _ x b.1 in
      let d = bind_ok (barred_lines_at bodies c.0.1) _ x c.2 in
      let f = fits_test (is_head_of id c.0.0) _ _ x d.2 in
      let h = barred_lines_take heads p c.0 c.1 in
      let k = barred_lines_take bodies c.0.1 d.0 d.1 in
      let t : Text = record { head = c.0.0; body = d.0.0 } in
      let behind : p.segments ≡ (barred t.head ++ barred t.body) ++ d.0.1.segments = h.1 ∙ ap (λ ls. barred t.head ++ ls) k.1 ∙ sym (append_assoc (barred t.head) (barred t.body) d.0.1.segments) in
      let lines : article_line id heads bodies ∷ p.segments ≡ article_lines (id, t) ++ d.0.1.segments = λ i. article_line id (h.2 i) (k.2 i) ∷ behind i in
      rw (← ok_is (with_article S id t, d.0.1) x f.1) (record {
        content = with_text limit S content id t (record { is_id = a.0; head = f.0; head_lines = h.0; body_lines = k.0 });
        segments = rw (entries-insert_last nat_list_cmp_total S.articles id t b.0, lines) (
            ap (λ ls. flat_map group_lines (entries S.groups) ++ ls) (sym (one_item article_lines (entries S.articles) (id, t) d.0.1.segments)));
      })

  -- what an item was read as: no group behind an article
  abbrev pub ItemTaken : List Line → Turn → Type 0
  ItemTaken from (On articles T next) = ReadOn limit S T from next.segments × (articles ≡ false → entries T.articles ≡ [])
  ItemTaken from (Done T next) = ReadOn limit S T from (codes "end" ∷ next.segments) × (ids_have_articles T ≡ true)

  pub item_takes : (articles : Bool) (p : Place) (turn : Turn) → (articles ≡ false → entries S.articles ≡ []) → item_at limit articles S p ≡ Ok turn → ItemTaken p.segments turn
  unfolding item_at
  item_takes articles p turn none e =
      let a = bind_ok (line_at p) _ turn e in
      let b = bind_ok (shaped p.line (opening_of (fields_of a.0.0))) (item_then limit p.line articles S a.0.1) turn a.2 in
      rw (line_takes p a.0 a.1) (taken b.0 a.0.0 a.0.1 (opening_line a.0.0 b.0 (shaped_ok p.line (opening_of (fields_of a.0.0)) b.0 b.1)) b.2)
    where
      taken : (item : OpeningValue) (l : Line) (q : Place) → OpeningLine item l → item_then limit p.line articles S q item ≡ Ok turn → ItemTaken (l ∷ q.segments) turn
      taken (Group name count) l q is e =
          let g = guard_ok articles _ _ turn e in
          let c = bind_ok (group_at limit p.line name count S q) _ turn g.1 in
          let group = group_takes p.line name count q c.0 (none g.0) c.1 in
          rw (← ok_is (On false c.0.0 c.0.1) turn c.2, is.1) (group.0, λ _. group.1)
      taken (Article id heads bodies) l q is e =
          let c = bind_ok (article_at p.line id heads bodies S q) _ turn e in
          rw (← ok_is (On true c.0.0 c.0.1) turn c.2, is.2) (article_takes p.line id heads bodies q c.0 c.1, λ no. absurd cc)
      taken End l q is e =
          let d = fits_test (ids_have_articles S) _ _ turn e in
          rw (← ok_is (Done S q) turn d.1, is) (record { content = content; segments = refl }, d.0)

-- ---- what is written is read

-- the item is read of the lines, up to the rest
abbrev Reads : ℕ → Bool → Spool → ℕ → List Line → Bool → Spool → List Line → Type 0
Reads limit articles S line lines behind T rest = (end : ℕ) × (item_at limit articles S (record { line = line; segments = lines }) ≡ Ok (On behind T (record { line = end; segments = rest })))

pub item_group_again : (limit line : ℕ) (S : Spool) (name : Name) (N : Numbers) (rest : List Line) → limit < 2 ^ 64 → IsNamed limit name N → is_last S.groups name ≡ true → 0 < length rest
    → Reads limit false S line (group_lines (name, N) ++ rest) false (with_group S name N) rest
unfolding item_at group_at
item_group_again limit line S name N rest le named last some =
    let again = numbers_again limit (line + 1) empty N (entries N) rest le named.numbers some (ap (λ es. es ++ entries N) (sym (entries-empty empty refl))) in
    let item = opening-group_line name (len N) (name-lacks 32 name (omega arith) refl named.is_name) (name-some name named.is_name) (few_numbers limit N le named.numbers) in
    let first = line_again line (group_line name (len N)) (number_lines (entries N) ++ rest) (omega (arith, length-append (number_lines (entries N)) rest)) in
    (again.0, rw (first, item, named.is_name, last, len-entries N, again.1) refl)

pub item_article_again : (limit line : ℕ) (articles : Bool) (S : Spool) (id : Id) (t : Text) (rest : List Line)
    → length t.head < 2 ^ 64 → length t.body < 2 ^ 64 → IsArticle id t → is_last S.articles id ≡ true → 0 < length rest
    → Reads limit articles S line (article_lines (id, t) ++ rest) true (with_article S id t) rest
unfolding item_at article_at
item_article_again limit line articles S id t rest h b is last some =
    let bodies = barred t.body ++ rest in
    let some_body : 0 < length bodies = omega (arith, length-append (barred t.body) rest) in
    let head = barred_lines_again (line + 1) t.head bodies [] some_body is.head_lines in
    let body = barred_lines_again head.0 t.body rest [] some is.body_lines in
    let item = opening-article_line id (length t.head) (length t.body) (id-lacks 32 id (omega arith) is.is_id) (id-some id is.is_id) h b in
    let first = line_again line (article_line id (length t.head) (length t.body)) (barred t.head ++ bodies) (omega (arith, length-append (barred t.head) bodies)) in
    (body.0, rw (append_assoc (barred t.head) (barred t.body) rest, first, item, is.is_id, last, head.1, body.1, is.head) refl)

pub item_end_again : (limit line : ℕ) (articles : Bool) (S : Spool) → ids_have_articles S ≡ true
    → item_at limit articles S (record { line = line; segments = codes "end" ∷ [] ∷ [] }) ≡ Ok (Done S (record { line = line + 1; segments = [] ∷ [] }))
unfolding item_at
item_end_again limit line articles S known = rw known refl
