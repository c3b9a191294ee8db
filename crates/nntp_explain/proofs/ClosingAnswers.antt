-- An answer that closes the connection is never refused.
use Rattle.std.proofs.Common.{◌≡◌, ◌⊎◌, ◌∙◌, ◌==◌, ◌||◌, ℕ, true, false, inl, inr, IsTrue, List, [], ◌∷◌, ◌++◌, append-nil, arith, map, refl, sym, ap, subst}
use Rattle.std.{proofs.lemmas.Bool.{true≢false, cases_Bool, Decides.{nat_tests}}, specs.List.{AllByRecursion}}
use Rattle.nntp_wire.specs.{Answer.{Asked, Response, greeting, to, plain}, Session.{closes}, Command.{Request, mode_reader, quit}}
use Rattle.nntp_article.specs.{declared.session.profile.Profile.{Profile}, Session.Machine.{Visible, fits, start}}
use Rattle.nntp_pair.specs.Pairing.{Paired, asked_at}
use Rattle.nntp_said.specs.{declared.position.Position.{Position}, Facts.{Holds, facts_of, facts_of_code}}
use Rattle.nntp_theory.specs.{Conflict.{placed_behind}, Inner.Exchanged.{said_behind}, Permitted.{exchanged, ArePermittedBehind}}
use Rattle.nntp_theory.proofs.Given.{SessionsByFacts.{said_each, permits_each}, SessionsGoOn.{facts_behind}}
use Rattle.nntp_facts.{specs.Inner.Noted.{FactsKept, HasNotedBehind, IsDue}, proofs.Keeping.RefusedAnswers.{fit_with, said_with}}

-- it fits, and says nothing of a spool
abbrev IsHarmless : Profile → Visible → Visible → Position → Asked → Response → Type 0
IsHarmless profile v seen at asked response = IsTrue (fits profile v asked response) × (facts_of profile.marks seen at asked response ≡ [])

-- a code is what is tested, or one of two
this : (code a : ℕ) → (code == a) ≡ true → code ≡ a
this code a e = grind (arith, nat_tests)

either : (code a b : ℕ) → (code == a || code == b) ≡ true → (code ≡ a) ⊎ (code ≡ b)
either code a b e = grind (arith, this)

-- 400 says nothing
nothing_said : (seen : Visible) (at : Position) (command : Request) → facts_of_code seen at command 400 ≡ []
nothing_said seen at command = grind arith

module _ (profile : Profile) (v seen : Visible) (at : Position) where
  by_code : (asked : Asked) (code other : ℕ) → code ≡ other → IsHarmless profile v seen at asked (plain other) → IsHarmless profile v seen at asked (plain code)
  by_code asked code other is h = grind arith

  harmless : (asked : Asked) (response : Response) → closes asked response ≡ true → IsHarmless profile v seen at asked response
  harmless greeting (plain code) e = grind (arith, either, by_code)
  harmless (to mode_reader) (plain code) e = grind (arith, either, by_code)
  harmless (to quit) (plain code) e = grind (arith, either, by_code)
  harmless (to command) (plain code) e = by_code (to command) code 400 (this code 400 e) (refl, nothing_said seen at command)
  harmless greeting response e = absurd (true≢false (sym e))
  harmless asked response e = cc

-- so some spool permits it
module _ (profile : Profile) (facts : FactsKept) (earlier : List (List Paired)) (past : List Paired) (pair : Paired) (s : HasNotedBehind profile facts earlier past) (due : IsDue facts pair) where
  is_permitted : closes (asked_at pair.place) pair.response ≡ true → (ArePermittedBehind profile earlier (past ++ pair ∷ []) → ⊥) → ⊥
  is_permitted closing none =
      let bad = placed_behind past pair in
      let S = s.permitted.0 in
      let before = map exchanged earlier in
      let is = harmless profile facts.visible (record start.visible { selected = bad.selected }) bad.position bad.asked bad.response closing in
      let fit = fit_with profile facts earlier past pair s due (is.0, none, refl) in
      let said = subst (AllByRecursion (Holds S)) (facts_behind profile.marks before (exchanged past)) (said_each profile S (before ++ exchanged past ∷ []) s.permitted.2).1 in
      let same = said_with profile facts earlier past pair s ∙ ap (λ new. said_behind profile.marks earlier past ++ new) is.1 ∙ append-nil (said_behind profile.marks earlier past) in
      none (S, s.permitted.1, permits_each profile S (before ++ exchanged (past ++ pair ∷ []) ∷ []) fit (subst (AllByRecursion (Holds S)) (sym same) said))

  -- and it isn't refused
  pub never_refused : (ArePermittedBehind profile earlier (past ++ pair ∷ []) → ⊥) → closes (asked_at pair.place) pair.response ≡ false
  never_refused none = elim (cases_Bool (closes (asked_at pair.place) pair.response)) [
    | inl closing ↦ absurd (is_permitted closing none)
    | inr is ↦ is
  ]
