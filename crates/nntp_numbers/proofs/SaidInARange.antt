-- What a part says whose numbers are listed in a range.
use Rattle.std.proofs.{Common.{◌≡◌, ℕ, suc, ◌^◌, ◌<◌, true, List, [], ◌∷◌, get_or, arith}, Math.Bool.{or-false, and-true}, lemmas.Bool.{and_parts, and_from}}
use Rattle.std.proofs.lemmas.Bool.{or_cases, leb-true, eqb-true}
use Rattle.nntp_wire.specs.declared.{marks.Marks.{Marks}, range.Range.{Range}, water_marks.WaterMarks.{WaterMarks}}
use Rattle.nntp_article.specs.Session.Machine.{is_in_range}
use Rattle.nntp_said.specs.Asks.{Estimates, ListsIn}
use Rattle.nntp_numbers.{proofs.GapsOfAPart.{all_pass}, specs.Inner.{Part.{Says, is_one_of, AreListable}, PartOf.{IsSmall, nothing_said, part_with}}}

-- the numbers of a slice are of 64 bits
small_items : (ns : List ℕ) → ((i : ℕ) → get_or ns i 0 < 2 ^ 64) → (n : ℕ) → is_one_of ns n ≡ true → n < 2 ^ 64
small_items [] fits n t = cc
small_items (k ∷ ns) fits n t = grind (arith, or_cases, eqb-true, fits 0, small_items ns (λ i. fits (suc i)))

-- the list says this
pub says_listed : (r : Range) (ns : List ℕ) → ((i : ℕ) → get_or ns i 0 < 2 ^ 64) → IsSmall (part_with ns (ListsIn r ns) nothing_said) → AreListable r ns
    → Says (part_with ns (ListsIn r ns) nothing_said) (ListsIn r ns ∷ [])
says_listed r ns fits small may = grind (arith, and_from, all_pass (is_in_range r) ns, or-false, and-true, and_parts, small_items, leb-true)

-- the marks and the list say this
pub says_range : (how : Marks) (m : WaterMarks) (r : Range) (ns : List ℕ) → ((i : ℕ) → get_or ns i 0 < 2 ^ 64) → IsSmall (part_with ns (ListsIn r ns) (part_with ns (Estimates how m) nothing_said))
    → AreListable r ns → Says (part_with ns (ListsIn r ns) (part_with ns (Estimates how m) nothing_said)) (Estimates how m ∷ ListsIn r ns ∷ [])
says_range how m r ns fits small may = grind (arith, and_from, all_pass (is_in_range r) ns, or-false, and-true, and_parts, small_items, leb-true)
