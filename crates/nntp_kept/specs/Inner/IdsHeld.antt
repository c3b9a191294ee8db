-- What the code's values keep of the ids of a group.
use Rattle.std.specs.{Prelude.{ℕ, List}, Ordering.{nat_cmp}, Cmp.Lexicographic.{slice_cmp}, FinMap.{FinMap}, Rc.{rc_str_bytes}, declared.rc.RcStr.{RcStr}}
use Rattle.nntp_article.specs.{Article.Parts.{Id}, Inner.ShownMap.{shown}}
use Rattle.nntp_kept.specs.declared.numbered_ids.NumberedId.{NumberedId}

-- the number, and its id
abbrev pub numbered : {A : Type 0} → NumberedId A → ℕ × Id
numbered held = (held.number, rc_str_bytes held.id)

-- ids, each by its number
abbrev pub ids_in : {A : Type 0} → List (ℕ × RcStr A) → FinMap nat_cmp Id
ids_in entries = shown nat_cmp (λ (n : ℕ). n) rc_str_bytes entries

-- numbers, each by its id
abbrev pub places_in : {A : Type 0} → List (RcStr A × ℕ) → FinMap (slice_cmp nat_cmp) ℕ
places_in entries = shown (slice_cmp nat_cmp) rc_str_bytes (λ (n : ℕ). n) entries
