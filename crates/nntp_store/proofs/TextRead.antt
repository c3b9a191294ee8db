-- A text that is read is that of the spool it is read as, and the text of a spool is read as this spool.
use Rattle.std.proofs.Common.{◌≡◌, ℕ, ◌≤◌, ◌<◌, ◌^◌, Bool, true, false, cond, List, ◌∷◌, ◌++◌, Ok, length, refl, sym, ap, ◌∙◌, arith, [], append_assoc, ◌+◌}
use Rattle.std.proofs.{Common.{map, length-append}, lemmas.{Bool.{and_from, and_parts}, List.{append-nil, length-map, Folds.{list_all-append, list_all-map}}}}
use Rattle.std.{proofs.lemmas.{List.Splits.{join_with_byte-slice_split}, Slice.Eq.{bytes_eq-Decides}}, specs.Cmp.{nat_cmp_total}}
use Rattle.std.specs.{Cmp.Lexicographic.{nat_list_cmp_total}, FinMap.{entries, len, nat_cmp-IsAntisymmetric}, Fmt.{decimal}, List.{join_with_byte, list_all}}
use Rattle.std.specs.{List.{flat_map, AllByRecursion}, Prelude.{codes, bytes_eq}}
use Rattle.nntp_wire.specs.{Limit.{greatest}, declared.limit.Limit.{Limit, TheVariants.{Narrow, Wide}}}
use Rattle.nntp_article.specs.{Article.Parts.{Line, Id}, Session.Spool.{Spool, Name, Numbers, Text, is_line}}
use Rattle.nntp_content.specs.{Content.{ids_have_articles}, Inner.{Content.{IsContent, IsNamed, IsArticle}, ArticleLines.{HasLineCounts}}}
use Rattle.nntp_content.proofs.{MapEntries.{all_got, test_each, got_all}, ShownMaps.{octet_keys}}
use Rattle.nntp_store.specs.{Limited.{LimitedSpool}, Reading.{Place, fault, line_at, wide_at, limit_at, segments_of, content_at, spool_at}, Text.{limit_lines}}
use Rattle.nntp_store.specs.Text.{content_lines, spool_lines, spool_text, with_line_ends, number_line, group_line, group_lines, article_lines}
use Rattle.nntp_store.proofs.{ItemsOfText.{content_takes, content_again}, ItemsRead.{lines_then}, LineFields.{lacks, lacks-append, lacks-digits}}
use Rattle.nntp_store.proofs.{LineFields.{are_digits-decimal, parts_front, list_all_weaken, name-lacks, id-lacks}, NumbersInOrder.{few_numbers}}
use Rattle.nntp_store.proofs.NumbersRead.{bind_ok, done, ok_is, line_takes, line_again, fits_test, num_below}
use Rattle.nntp_store.specs.declared.text.read_fault.Kind.TheVariants as kinds

-- ---- the lines of a limit

greatest_small : (limit : Limit) → greatest limit < 2 ^ 64
greatest_small limit = grind arith

some_limit_line : (limit : Limit) → 1 ≤ length (limit_lines limit)
some_limit_line limit = grind arith

-- the line that is read is this one
line_is : (p : Place) (x : Line × Place) (l : Line) → line_at p ≡ Ok x → bytes_eq x.0 l ≡ true → p.segments ≡ l ∷ x.1.segments
line_is p x l e same = line_takes p x e ∙ ap (λ (t : Line). t ∷ x.1.segments) ((bytes_eq-Decides x.0 l).0 same)

wide_takes : (p : Place) (x : Limit × Place) → wide_at p ≡ Ok x → (x.0 ≡ Wide) × (p.segments ≡ codes "limit 9999999999999999" ∷ x.1.segments)
unfolding wide_at
wide_takes p x e = grind (arith, bind_ok, fits_test, ok_is, line_is)

limit_takes : (p : Place) (x : Limit × Place) → limit_at p ≡ Ok x → p.segments ≡ limit_lines x.0 ++ x.1.segments
unfolding limit_at
limit_takes p x e =
    let a = bind_ok (line_at p) _ x e in
    by a.0 a.1 (bytes_eq a.0.0 (codes "spool 1")) refl (bytes_eq a.0.0 (codes "spool 2")) refl a.2
  where
    by : (l : Line × Place) → line_at p ≡ Ok l → (narrow : Bool) → bytes_eq l.0 (codes "spool 1") ≡ narrow → (wide : Bool) → bytes_eq l.0 (codes "spool 2") ≡ wide
        → cond narrow (done (Narrow, l.1)) (cond wide (wide_at l.1) (fault p.line kinds.Shape)) ≡ Ok x → p.segments ≡ limit_lines x.0 ++ x.1.segments
    by l at true first wide second f = rw (← ok_is (Narrow, l.1) x f) (line_is p l (codes "spool 1") at first)
    by l at false first true second f =
        let w = wide_takes l.1 x f in
        rw (line_is p l (codes "spool 2") at second, w.0, w.1) refl
    by l at false first false second f = absurd cc

limit_again : (limit : Limit) (rest : List Line) → 0 < length rest
    → (end : ℕ) × (limit_at (record { line = 1; segments = limit_lines limit ++ rest }) ≡ Ok (limit, record { line = end; segments = rest }))
unfolding limit_at wide_at
limit_again Narrow rest some = (2, rw (line_again 1 (codes "spool 1") rest some) refl)
limit_again Wide rest some = (3, rw (line_again 2 (codes "limit 9999999999999999") rest some) refl)

-- ---- what was read

joined : (lines : List Line) → join_with_byte 10 (lines ++ [] ∷ []) ≡ with_line_ends lines
joined (l ∷ k ∷ lines) = ap (λ (t : List ℕ). l ++ 10 ∷ t) (joined (k ∷ lines)) ∙ sym (append_assoc l (10 ∷ []) (with_line_ends (k ∷ lines)))
joined lines = grind (arith, append-nil)

pub text_takes : (octets : List ℕ) (L : LimitedSpool) → spool_at octets ≡ Ok L → IsContent (greatest L.limit) L.spool × (ids_have_articles L.spool ≡ true) × (octets ≡ spool_text L)
unfolding spool_at
text_takes octets L e =
    let start : Place = record { line = 1; segments = segments_of octets } in
    let a = bind_ok (limit_at start) _ L e in
    let limit = greatest a.0.0 in
    let b = bind_ok (content_at limit (length octets) a.0.1) _ L a.2 in
    let K : LimitedSpool = record { limit = a.0.0; spool = b.0 } in
    let t = content_takes limit (length octets) a.0.1 b.0 (greatest_small a.0.0) b.1 in
    let lines : segments_of octets ≡ spool_lines K ++ [] ∷ [] = limit_takes start a.0 a.1 ∙ ap (λ (ps : List Line). limit_lines a.0.0 ++ ps) t.2 ∙ simp append_assoc in
    rw (← ok_is K L b.2) (t.0, t.1, sym (join_with_byte-slice_split 10 octets) ∙ ap (join_with_byte 10) lines ∙ joined (spool_lines K))

-- ---- lines have no line feed inside

abbrev clean : List Line → Bool
clean lines = list_all (lacks 10) lines

clean-append : (xs ys : List Line) → clean xs ≡ true → clean ys ≡ true → clean (xs ++ ys) ≡ true
clean-append xs ys h g = list_all-append (lacks 10) xs ys ∙ and_from (clean xs) (clean ys) h g

clean-flat : {X : Type 0} (f : X → List Line) (xs : List X) → AllByRecursion (λ x. clean (f x) ≡ true) xs → clean (flat_map f xs) ≡ true
clean-flat f [] h = refl
clean-flat f (x ∷ xs) h = clean-append (f x) (flat_map f xs) h.0 (clean-flat f xs h.1)

spaced-lacks : (xs ys : List ℕ) → lacks 10 xs ≡ true → lacks 10 ys ≡ true → lacks 10 (xs ++ 32 ∷ ys) ≡ true
spaced-lacks xs ys h g = lacks-append 10 xs (32 ∷ ys) h g

decimal-lacks : (n : ℕ) → n < 2 ^ 64 → lacks 10 (decimal n) ≡ true
decimal-lacks n lt = lacks-digits 10 (decimal n) (omega arith) (are_digits-decimal n lt)

clean-group : (limit : ℕ) (name : Name) (N : Numbers) → limit < 2 ^ 64 → len N < 2 ^ 64 → IsNamed limit name N → clean (group_lines (name, N)) ≡ true
clean-group limit name N le small named =
    let first = spaced-lacks (codes "group") (name ++ 32 ∷ decimal (len N)) refl
    (grind (arith, spaced-lacks, name-lacks, decimal-lacks)) in
    let each = test_each nat_cmp_total nat_cmp-IsAntisymmetric (λ n id. lacks 10 (number_line n id)) N in
    let lines = each.1 (λ n id g. let is = named.numbers.each n id g in spaced-lacks (decimal n) id (decimal-lacks n (num_below limit n le is.0)) (id-lacks 10 id (omega arith) is.1)) in
    and_from (lacks 10 (group_line name (len N))) (clean (map (λ e. number_line e.0 e.1) (entries N))) first (list_all-map (lacks 10) (λ e. number_line e.0 e.1) (entries N) ∙ lines)

line-lacks : (l : Line) → is_line l ≡ true → lacks 10 l ≡ true
line-lacks l h = grind (arith, and_parts, list_all_weaken)

clean-article : (id : Id) (t : Text) → length t.head < 2 ^ 64 → length t.body < 2 ^ 64 → IsArticle id t → clean (article_lines (id, t)) ≡ true
clean-article id t h b is = grind (arith, spaced-lacks, id-lacks, decimal-lacks, and_from, lacks 10, clean-append, list_all-map (lacks 10), list_all_weaken is_line, line-lacks)

clean-content : (limit : ℕ) (F : Spool) → limit < 2 ^ 64 → IsContent limit F → HasLineCounts F → clean (content_lines F) ≡ true
clean-content limit F le content sizes =
    let groups = clean-flat group_lines (entries F.groups) (got_all nat_list_cmp_total (λ name N. clean (group_lines (name, N)) ≡ true) F.groups (λ name N g.
    let is = content.groups name N g in clean-group limit name N le (few_numbers limit N le is.numbers) is)) in
    let articles = clean-flat article_lines (entries F.articles) (got_all nat_list_cmp_total (λ id t. clean (article_lines (id, t)) ≡ true) F.articles (λ id t g.
    let few = sizes id t g in clean-article id t few.0 few.1 (content.articles id t g))) in
    grind (arith, clean-append)

clean-limit : (limit : Limit) → clean (limit_lines limit) ≡ true
clean-limit limit = grind arith

segments_of-with_line_ends : (lines : List Line) → clean lines ≡ true → segments_of (with_line_ends lines) ≡ lines ++ [] ∷ []
segments_of-with_line_ends [] h = refl
segments_of-with_line_ends (l ∷ lines) h =
    grind (arith, and_parts (lacks 10 l) (clean lines) h, lacks 10 l, append_assoc l (10 ∷ []) (with_line_ends lines), parts_front 10 l (with_line_ends lines), segments_of-with_line_ends lines)

-- ---- sizes

length-with_line_ends : (lines : List Line) → length lines ≤ length (with_line_ends lines)
length-with_line_ends [] = omega arith
length-with_line_ends (l ∷ lines) = omega (arith, length-with_line_ends lines, length-append (l ++ 10 ∷ []) (with_line_ends lines), length-append l (10 ∷ []))

within : {X : Type 0} (f : X → List Line) (xs : List X) (most : ℕ) → length (flat_map f xs) ≤ most → AllByRecursion (λ x. length (f x) ≤ most) xs
within f [] most h = tt
within f (x ∷ xs) most h = (omega (arith, length-append (f x) (flat_map f xs)), within f xs most (omega (arith, length-append (f x) (flat_map f xs))))

enough : {X : Type 0} (f : X → List Line) (xs : List X) → ((x : X) → 1 ≤ length (f x)) → length xs ≤ length (flat_map f xs)
enough f [] h = omega arith
enough f (x ∷ xs) h = omega (arith, length-append (f x) (flat_map f xs), h x, enough f xs h)

length-text : (L : LimitedSpool) → length (flat_map group_lines (entries L.spool.groups)) + length (flat_map article_lines (entries L.spool.articles)) + 2 ≤ length (spool_text L)
length-text L = grind (arith, length-append, length-with_line_ends (spool_lines L), some_limit_line)

pub counted : (L : LimitedSpool) → length (spool_text L) < 2 ^ 64 → HasLineCounts L.spool
counted L lt =
    let F = L.spool in
    let whole = length-text L in
    λ id t g.
    let fits = all_got nat_list_cmp_total octet_keys (λ id t. length (article_lines (id, t)) ≤ length (spool_text L)) F.articles
    (within article_lines (entries F.articles) (length (spool_text L)) (omega arith)) id t g in
    grind (arith, length-append, length-map)

-- ---- the whole

pub text_again : (L : LimitedSpool) → IsContent (greatest L.limit) L.spool → HasLineCounts L.spool → ids_have_articles L.spool ≡ true → spool_at (spool_text L) ≡ Ok L
unfolding spool_at
text_again L content sizes known =
    let F = L.spool in
    let limit = greatest L.limit in
    let le = greatest_small L.limit in
    let behind = lines_then F (codes "end" ∷ [] ∷ []) in
    let clean = clean-append (limit_lines L.limit) (content_lines F) (clean-limit L.limit) (clean-content limit F le content sizes) in
    let lines : segments_of (spool_text L) ≡ limit_lines L.limit ++ behind = segments_of-with_line_ends (spool_lines L) clean ∙ simp append_assoc in
    let most : length (entries F.groups) + length (entries F.articles) < length (spool_text L) =
    omega (arith, length-text L, enough group_lines (entries F.groups) (λ g. omega arith), enough article_lines (entries F.articles) (λ a. omega arith)) in
    let some : 0 < length behind = omega (
      arith,
      length-append (flat_map group_lines (entries F.groups)) (flat_map article_lines (entries F.articles) ++ codes "end" ∷ [] ∷ []),
      length-append (flat_map article_lines (entries F.articles)) (codes "end" ∷ [] ∷ []),
    ) in
    let first = limit_again L.limit behind some in
    rw (lines, first.1, content_again limit F le content sizes known (length (spool_text L)) first.0 most) refl
