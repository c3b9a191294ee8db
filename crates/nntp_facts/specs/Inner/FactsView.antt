-- The codes of what the facts hold.
use Rattle.std.specs.{Prelude.{ℕ, Option, None, Some, ◌≡◌, refl}, Coded.{Coded, code_by, coded×, coded_ℕ, coded_option, coded_bool}}
use Rattle.nntp_article.specs.Inner.Coded.{coded_limit, coded_marks, coded_visible}
use Rattle.nntp_said.specs.declared.position.Position.{Position, TheVariants.{Nowhere, First, Known}}
use Rattle.nntp_kept.specs.Inner.KeptView.{coded_whole}
use Rattle.nntp_facts.specs.Inner.Noted.{FactsKept}

-- a position as one of three
abbrev pub of_position : Position → Option (Option ℕ)
of_position Nowhere = None
of_position First = Some None
of_position (Known n) = Some (Some n)

-- the position that is one of three
abbrev pub to_position : Option (Option ℕ) → Position
to_position None = Nowhere
to_position (Some None) = First
to_position (Some (Some n)) = Known n

pub same_position_back : (at : Position) → to_position (of_position at) ≡ at
same_position_back Nowhere = refl
same_position_back First = refl
same_position_back (Known n) = refl

abbrev pub coded_position : Coded Position
coded_position = code_by _ (coded_option (coded_option coded_ℕ)) of_position to_position same_position_back

abbrev pub coded_facts : Coded FactsKept
coded_facts =
    code_by _ (coded× (coded× (coded× coded_limit coded_marks) coded_ℕ) (coded× (coded× coded_visible coded_position) (coded× coded_whole coded_bool)))
    (λ f. (((f.limit, f.marks), f.count), ((f.visible, f.position), (f.kept, f.has_failed))))
    (λ p. record { limit = p.0.0.0; marks = p.0.0.1; count = p.0.1; visible = p.1.0.0; position = p.1.0.1; kept = p.1.1.0; has_failed = p.1.1.1 }) (λ _. refl)
