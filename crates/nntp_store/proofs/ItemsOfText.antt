-- The groups and articles that are read are those that are written, and those that are written are read.
use Rattle.std.proofs.Common.{◌≡◌, ℕ, zero, suc, ◌+◌, ◌^◌, ◌<◌, Bool, true, false, List, [], ◌∷◌, ◌++◌, Ok, length, refl, sym, ap, ◌∙◌, append_assoc}
use Rattle.std.{proofs.{Common.{length-append, arith}, lemmas.List.{append-nil}}, specs.{Cmp.Lexicographic.{nat_list_cmp_total}, FinMap.{entries}}}
use Rattle.std.specs.{FinMap.{same_entries_map}, List.{flat_map}, Prelude.{codes}}
use Rattle.nntp_article.specs.{Article.Parts.{Line, Id}, Session.Spool.{Name, Spool, Numbers, Text}}
use Rattle.nntp_content.specs.{Content.{with_group, with_article, no_spool, ids_have_articles}, Inner.{Content.{IsContent}, ArticleLines.{HasLineCounts}}}
use Rattle.nntp_content.proofs.{MapEntries.{entries-empty, next_entry}, ShownMaps.{spool_is}}
use Rattle.nntp_store.specs.{Reading.{Place, Turn, On, Done, item_at, items_at, turn_then, is_end, content_at}, Text.{group_lines, article_lines}}
use Rattle.nntp_store.proofs.{BuiltContent.{nothing}, ItemsRead.{lines_then, ReadOn, ItemTaken, item_takes, item_group_again, item_article_again}}
use Rattle.nntp_store.proofs.{ItemsRead.{item_end_again}, NumbersRead.{bind_ok, ok_is, done, fits_test}}

-- ---- what was read

items_take : (limit : ℕ) → limit < 2 ^ 64 → (most : ℕ) (articles : Bool) (S : Spool) (p : Place) (x : Spool × Place) → IsContent limit S → (articles ≡ false → entries S.articles ≡ [])
    → items_at limit most articles S p ≡ Ok x → ReadOn limit S x.0 p.segments (codes "end" ∷ x.1.segments) × (ids_have_articles x.0 ≡ true)
items_take limit le zero articles S p x content none e = absurd cc
items_take limit le (suc most) articles S p x content none e =
    let a = bind_ok (item_at limit articles S p) (turn_then (items_at limit most)) x e in
    taken a.0 (item_takes limit le S content articles p a.0 none a.1) a.2 (items_take limit le most)
  where
    taken : (turn : Turn) → ItemTaken limit le S content p.segments turn → turn_then (items_at limit most) turn ≡ Ok x
        → ((b : Bool) (T : Spool) (q : Place) (y : Spool × Place) → IsContent limit T → (b ≡ false → entries T.articles ≡ [])
        → items_at limit most b T q ≡ Ok y → ReadOn limit T y.0 q.segments (codes "end" ∷ y.1.segments) × (ids_have_articles y.0 ≡ true))
        → ReadOn limit S x.0 p.segments (codes "end" ∷ x.1.segments) × (ids_have_articles x.0 ≡ true)
    taken (On b T q) (t, no_articles) f more =
        let rest = more b T q x t.content no_articles f in
        (record { content = rest.0.content; segments = t.segments ∙ rest.0.segments }, rest.1)
    taken (Done T q) t f more = rw (← ok_is (T, q) x f) t

end_is : (segments : List Line) → is_end segments ≡ true → segments ≡ [] ∷ []
end_is segments e = grind arith

-- what stands behind the lines of the limit, and is read
pub content_takes : (limit most : ℕ) (p : Place) (S : Spool) → limit < 2 ^ 64 → content_at limit most p ≡ Ok S
    → IsContent limit S × (ids_have_articles S ≡ true) × (p.segments ≡ lines_then S (codes "end" ∷ [] ∷ []))
unfolding content_at
content_takes limit most p S le e =
    let b = bind_ok (items_at limit most false no_spool p) _ S e in
    let d = fits_test (is_end b.0.1.segments) _ _ S b.2 in
    let none = entries-empty no_spool.articles refl in
    let t = items_take limit le most false no_spool p b.0 (nothing limit) (λ _. none) b.1 in
    let start : lines_then no_spool p.segments ≡ p.segments = rw (entries-empty no_spool.groups refl, none) refl in
    rw (← ok_is b.0.0 S d.1) (t.0.content, t.1, sym start ∙ t.0.segments ∙ ap (λ segments. lines_then b.0.0 (codes "end" ∷ segments)) (end_is b.0.1.segments d.0))

-- ---- what is written is read

abbrev tail_lines : List (Id × Text) → List Line
tail_lines texts = flat_map article_lines texts ++ codes "end" ∷ [] ∷ []

some_tail : (texts : List (Id × Text)) → 0 < length (tail_lines texts)
some_tail texts = omega (arith, length-append (flat_map article_lines texts) (codes "end" ∷ [] ∷ []))

module _ (limit : ℕ) (F : Spool) (le : limit < 2 ^ 64) (content : IsContent limit F) (sizes : HasLineCounts F) (known : ids_have_articles F ≡ true) where
  abbrev ReadsTo : ℕ → Bool → Spool → ℕ → List Line → Type 0
  ReadsTo most articles S line segments = (end : ℕ) × (items_at limit most articles S (record { line = line; segments = segments }) ≡ Ok (F, record { line = end; segments = [] ∷ [] }))

  texts_again : (most line : ℕ) (articles : Bool) (S : Spool) (texts : List (Id × Text)) → S.groups ≡ F.groups
      → entries F.articles ≡ entries S.articles ++ texts → length texts < most → ReadsTo most articles S line (tail_lines texts)
  texts_again zero line articles S texts g t lt = absurd (omega arith)
  texts_again (suc most) line articles S [] g t lt =
      let same : S ≡ F = spool_is S F g (same_entries_map S.articles F.articles (sym (t ∙ append-nil (entries S.articles)))) in
      (line + 1, rw (item_end_again limit line articles S (ap ids_have_articles same ∙ known)) (ap (λ (T : Spool). done (T, record { line = line + 1; segments = [] ∷ [] })) same))
  texts_again (suc most) line articles S (a ∷ texts) g t lt =
      let next = next_entry nat_list_cmp_total S.articles F.articles a texts t in
      let size = sizes a.0 a.1 next.1 in
      let one = item_article_again limit line articles S a.0 a.1 (tail_lines texts) size.0 size.1 (content.articles a.0 a.1 next.1) next.0 (some_tail texts) in
      let more = texts_again most one.0 true (with_article S a.0 a.1) texts g next.2 (omega arith) in
      (more.0, rw (append_assoc (article_lines a) (flat_map article_lines texts) (codes "end" ∷ [] ∷ []), one.1) more.1)

  groups_again : (most line : ℕ) (S : Spool) (groups : List (Name × Numbers)) → entries F.groups ≡ entries S.groups ++ groups → entries S.articles ≡ []
      → length groups + length (entries F.articles) < most → ReadsTo most false S line (flat_map group_lines groups ++ tail_lines (entries F.articles))
  groups_again most line S [] g none lt =
      texts_again most line false S (entries F.articles) (same_entries_map S.groups F.groups (sym (g ∙ append-nil (entries S.groups)))) (ap (λ es. es ++ entries F.articles) (sym none)) (omega arith)
  groups_again zero line S (n ∷ groups) g none lt = absurd (omega arith)
  groups_again (suc most) line S (n ∷ groups) g none lt =
      let next = next_entry nat_list_cmp_total S.groups F.groups n groups g in
      let rest = flat_map group_lines groups ++ tail_lines (entries F.articles) in
      let some : 0 < length rest = omega (arith, length-append (flat_map group_lines groups) (tail_lines (entries F.articles)), some_tail (entries F.articles)) in
      let one = item_group_again limit line S n.0 n.1 rest le (content.groups n.0 n.1 next.1) next.0 some in
      let more = groups_again most one.0 (with_group S n.0 n.1) groups next.2 none (omega arith) in
      (more.0, rw (append_assoc (group_lines n) (flat_map group_lines groups) (tail_lines (entries F.articles)), one.1) more.1)

  -- behind the lines of the limit
  pub content_again : (most line : ℕ) → length (entries F.groups) + length (entries F.articles) < most
      → content_at limit most (record { line = line; segments = lines_then F (codes "end" ∷ [] ∷ []) }) ≡ Ok F
  unfolding content_at
  content_again most line enough = grind (arith, groups_again most line no_spool, entries-empty)
