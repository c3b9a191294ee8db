-- The allowed codes fit.
use Rattle.std.proofs.{Common.{◌≡◌, ℕ, Bool, true, false, ◌==◌, IsTrue, IsFalse, Option, List, [], ◌∷◌, inl, inr, sym, subst, arith}, lemmas.Bool.{or_cases}}
use Rattle.std.{proofs.lemmas.Bool.{eqb-true, true≢false}, specs.{Prelude.{⊤}, FinMap.{FinMap}, Ordering.{nat_cmp}, Cmp.Lexicographic.{slice_cmp}}}
use Rattle.nntp_wire.specs.Answer.{Asked, plain}
use Rattle.nntp_article.specs.{Session.{Spool.{Name}, Machine.{Visible, is_one_of, fits}, Misfit.{allowed_codes}}, Inner.Misfit.{is_success}}
use Rattle.nntp_article.specs.declared.session.profile.Profile.{Profile}

-- each of the codes has the property
abbrev Each : (ℕ → Type 0) → List ℕ → Type 0
Each P [] = ⊤
Each P (c ∷ cs) = P c × Each P cs

of_each : (P : ℕ → Type 0) (cs : List ℕ) (code : ℕ) → Each P cs → is_one_of cs code ≡ true → P code
of_each P [] code each h = absurd (true≢false (sym h))
of_each P (c ∷ cs) code each h =
    elim (or_cases (c == code) (is_one_of cs code) h) [ inl e ↦ subst P (eqb-true c code e) each.0 | inr e ↦ of_each P cs code each.1 e ]

-- the code fits by itself, unless more is due with it
abbrev Fits : Profile → Visible → Asked → ℕ → Type 0
Fits profile v asked code = is_success asked code ≡ false → fits profile v asked (plain code) ≡ true

module _ (profile : Profile) (closed : Bool) (lows : FinMap (slice_cmp nat_cmp) ℕ) where
  abbrev with_selected : Option Name → Visible
  with_selected selected = record { closed = closed; selected = selected; lows = lows }

  each_allowed : (selected : Option Name) (asked : Asked) → Each (Fits profile (with_selected selected) asked) (allowed_codes (with_selected selected) asked)
  each_allowed selected asked = grind arith

pub allowed_fits : (profile : Profile) (v : Visible) (asked : Asked) (code : ℕ)
    → IsTrue (is_one_of (allowed_codes v asked) code) → IsFalse (is_success asked code) → IsTrue (fits profile v asked (plain code))
allowed_fits profile v asked code h = of_each (Fits profile v asked) (allowed_codes v asked) code (each_allowed profile v.closed v.lows v.selected asked) h
