-- The given numbers are those that are known, and the one more.
use Rattle.std.proofs.{Common.{◌≡◌, ℕ, ◌+◌, ◌↔◌, IsTrue, List, [], inl, inr, arith}, lemmas.Bool.{true≢false, cases_eq, eq-eqb, ne_eqb, ltb-true, lt-ltb}}
use Rattle.std.specs.{Cmp.{nat_cmp_total}, FinMap.{len, insert, get-insert, len-insert}}
use Rattle.nntp_article.specs.Session.Spool.{Numbers, IsNumber}
use Rattle.nntp_said.specs.Asks.{Ask}
use Rattle.nntp_theory.specs.{Given.{is_known, demand, IsOneMore, IsGivenNumber, HasGivenNumbers}, Together.{MeetsDemand}}
use Rattle.nntp_theory.proofs.{GivenNumbers.MetNumbersStand.{second_shown, shown_known}, Maps.{len_le}}

module _ (asks : List Ask) (M : Numbers) (shown : (n : ℕ) → IsNumber M n ↔ IsTrue (is_known asks n)) where
  -- where there is no more, those that are known are given
  pub none_more : ((e : ℕ) → IsOneMore asks e → ⊥) → HasGivenNumbers asks M
  none_more none = λ n. (λ i. inl ((shown n).0 i), λ g. elim g [ inl s ↦ (shown n).1 s | inr x ↦ absurd (none n x) ])

  -- else those, and the one more
  pub one_more_given : (e : ℕ) → IsOneMore asks e → HasGivenNumbers asks (insert M e [])
  one_more_given e x = grind (arith, cases_eq, get-insert nat_cmp_total M e [], eq-eqb, ne_eqb)

  -- which is one more
  pub one_more_counted : (e : ℕ) → IsOneMore asks e → len (insert M e []) ≡ len M + 1
  one_more_counted e x = grind (arith, len-insert nat_cmp_total M e [], true≢false)

-- there are as many in all maps that have them
pub as_many_given : (asks : List Ask) (N M : Numbers) → HasGivenNumbers asks N → HasGivenNumbers asks M → len N ≡ len M
as_many_given asks N M g h = search (arith, len_le)

-- ---- the demand

-- where there is one more, the demand is met
pub more_meets : (asks : List Ask) (e : ℕ) → IsOneMore asks e → MeetsDemand (demand asks) (IsGivenNumber asks)
more_meets asks e x = grind (arith, true≢false, shown_known, second_shown, ltb-true, lt-ltb)

-- else if those that are known meet it
pub known_meet : (asks : List Ask) → ((e : ℕ) → IsOneMore asks e → ⊥) → MeetsDemand (demand asks) (IsGivenNumber asks) ↔ MeetsDemand (demand asks) (λ n. IsTrue (is_known asks n))
known_meet asks none = grind arith
