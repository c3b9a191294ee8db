-- What a part says that one ask made.
use Rattle.std.proofs.{Common.{ℕ, ◌^◌, ◌<◌, ◌≤◌, List, [], ◌∷◌, rules, arith}, lemmas.Bool.Decides.{nat_tests}}
use Rattle.nntp_wire.specs.declared.{marks.Marks.{Marks}, water_marks.WaterMarks.{WaterMarks}}
use Rattle.nntp_said.specs.Asks.{Ask, Estimates, Has, Lacks, StandsAt, StandsNowhere, StepsUp, StepsDown, IsTop, IsBottom}
use Rattle.nntp_said.specs.declared.position.Position.{Position}
use Rattle.nntp_numbers.specs.Inner.{Part.{Said, Says}, PartOf.{IsSmall, nothing_said, part_with}, PartView.{said}, Summary.{AreBounded}}
use Rattle.nntp_numbers.specs.declared.numbers_part.NumbersPart.{NumbersPart}

-- the part that an ask makes, whose answer shows these numbers
abbrev of_ask : List ℕ → Ask → Said
of_ask shown ask = part_with shown ask nothing_said

-- the high end and the last number of what a part says are below 2^64
pub said_small : (p : NumbersPart) → IsSmall (said p)
said_small p = record { high = p.ends_fit.0; last = p.ends_fit.1 }

pub says_marks : (shown : List ℕ) (how : Marks) (m : WaterMarks) → m.high < 2 ^ 64 → Says (of_ask shown (Estimates how m)) (Estimates how m ∷ [])
says_marks shown how m small = search rules

pub marks_bounded : (how : Marks) (m : WaterMarks) → m.high < 2 ^ 64 → AreBounded (Estimates how m ∷ [])
marks_bounded how m small = search rules

pub says_has : (n : ℕ) → n < 2 ^ 64 → 1 ≤ n → Says (of_ask (n ∷ []) (Has n)) (Has n ∷ [])
says_has n small some = search rules

pub says_lacks : (shown : List ℕ) (n : ℕ) → n < 2 ^ 64 → Says (of_ask shown (Lacks n)) (Lacks n ∷ [])
says_lacks shown n small = search rules

pub says_stands : (at : Position) (n : ℕ) → IsSmall (of_ask (n ∷ []) (StandsAt at n)) → 1 ≤ n → Says (of_ask (n ∷ []) (StandsAt at n)) (StandsAt at n ∷ Has n ∷ [])
says_stands at n small some = search rules

pub says_nowhere : (shown : List ℕ) (at : Position) → Says (of_ask shown (StandsNowhere at)) (StandsNowhere at ∷ [])
says_nowhere shown at = grind arith

pub says_up : (at : Position) (n : ℕ) → IsSmall (of_ask (n ∷ []) (StepsUp at n)) → 1 ≤ n → Says (of_ask (n ∷ []) (StepsUp at n)) (StepsUp at n ∷ Has n ∷ [])
says_up at n small some = grind (arith, nat_tests, small)

pub says_down : (at : Position) (n : ℕ) → IsSmall (of_ask (n ∷ []) (StepsDown at n)) → 1 ≤ n → Says (of_ask (n ∷ []) (StepsDown at n)) (StepsDown at n ∷ Has n ∷ [])
says_down at n small some = grind (arith, nat_tests, small)

pub says_top : (shown : List ℕ) (at : Position) → (of_ask shown (IsTop at)).high < 2 ^ 64 → Says (of_ask shown (IsTop at)) (IsTop at ∷ [])
says_top shown at small = grind arith

pub says_bottom : (shown : List ℕ) (at : Position) → Says (of_ask shown (IsBottom at)) (IsBottom at ∷ [])
says_bottom shown at = grind arith
