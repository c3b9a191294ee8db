-- The codes of what a checker holds.
use Rattle.std.specs.{Prelude.{refl, ◌≡◌, ◌⊎◌, ℕ, zero, suc, Bool, true, false, List, Option, None, Some}, Coded.{Coded, code_by, coded×, coded⊎, coded_ℕ}}
use Rattle.std.specs.Coded.{coded_list, coded_bool, coded_option}
use mathlib.Core.Logic.{inl, inr}
use Rattle.nntp_wire.specs.{Session.{ClientStream}, declared.overviews.Overviews.{Overviews, TheVariants.{Opaque, Judged}}}
use Rattle.nntp_pair.specs.{Inner.Feeding.{Fed}, declared.class.Class.{Class, TheVariants.{Surplus, Cut, Malformed, OutOfPlace, Contradiction}}}
use Rattle.nntp_facts.specs.Inner.{FactsView.{coded_facts}, Noted.{FactsKept}}
use Rattle.nntp_store.specs.{Limited.{LimitedSpool}, Inner.Limited.{coded_limited}}
use Rattle.nntp_verdict.specs.{Inner.Checking.{Checked, judging, decided, failed}, Verdict.{JudgementOfAll, consistent_of_all, bad_of_all}}

-- how overviews are taken, as one of two ways
abbrev pub of_overviews : Overviews → Bool
of_overviews Opaque = false
of_overviews Judged = true

-- and back
abbrev pub to_overviews : Bool → Overviews
to_overviews false = Opaque
to_overviews true = Judged

abbrev pub same_overviews_back : (overviews : Overviews) → to_overviews (of_overviews overviews) ≡ overviews
same_overviews_back Opaque = refl
same_overviews_back Judged = refl

abbrev pub coded_overviews : Coded Overviews
coded_overviews = code_by _ coded_bool of_overviews to_overviews same_overviews_back

abbrev pub coded_client : Coded ClientStream
coded_client = code_by _ (coded× (coded_list coded_ℕ) coded_overviews)
    (λ c. (c.octets, c.overviews)) (λ p. record { octets = p.0; overviews = p.1 }) (λ _. refl)

abbrev pub coded_fed : Coded Fed
coded_fed =
    code_by _ (coded× (coded× coded_ℕ (coded× coded_client (coded_list coded_ℕ))) (coded× (coded× coded_bool coded_bool) (coded× coded_ℕ coded_ℕ)))
    (λ f. ((f.index, (f.client, f.server)), ((f.is_closed, f.has_failed), (f.counts.client, f.counts.server))))
    (λ p. record { index = p.0.0; client = p.0.1.0; server = p.0.1.1; is_closed = p.1.0.0; has_failed = p.1.0.1; counts = record { client = p.1.1.0; server = p.1.1.1 } }) (λ _. refl)

-- why an answer is bad, as a number
abbrev pub of_class : Class → ℕ
of_class Surplus = 0
of_class Cut = 1
of_class Malformed = 2
of_class OutOfPlace = 3
of_class Contradiction = 4

-- and back
abbrev pub to_class : ℕ → Class
to_class zero = Surplus
to_class (suc zero) = Cut
to_class (suc (suc zero)) = Malformed
to_class (suc (suc (suc zero))) = OutOfPlace
to_class more = Contradiction

abbrev pub same_class_back : (class : Class) → to_class (of_class class) ≡ class
same_class_back Surplus = refl
same_class_back Cut = refl
same_class_back Malformed = refl
same_class_back OutOfPlace = refl
same_class_back Contradiction = refl

-- a judgement by its parts
abbrev pub JudgementParts : Type 0
JudgementParts = (LimitedSpool × List ℕ) ⊎ ((ℕ × ℕ) × (Class × (Option (List ℕ) × List ℕ)))

abbrev pub of_judgement : JudgementOfAll → JudgementParts
of_judgement (consistent_of_all spool answers) = inl (spool, answers)
of_judgement (bad_of_all session answer class command reply) = inr ((session, answer), (class, (command, reply)))

abbrev pub to_judgement : JudgementParts → JudgementOfAll
to_judgement (inl parts) = consistent_of_all parts.0 parts.1
to_judgement (inr parts) = bad_of_all parts.0.0 parts.0.1 parts.1.0 parts.1.1.0 parts.1.1.1

abbrev pub same_judgement_back : (judgement : JudgementOfAll) → to_judgement (of_judgement judgement) ≡ judgement
same_judgement_back (consistent_of_all spool answers) = refl
same_judgement_back (bad_of_all session answer class command reply) = refl

abbrev pub coded_judgement : Coded JudgementOfAll
coded_judgement = code_by JudgementParts
    (coded⊎ (coded× coded_limited (coded_list coded_ℕ))
    (coded× (coded× coded_ℕ coded_ℕ) (coded× (code_by ℕ coded_ℕ of_class to_class same_class_back) (coded× (coded_option (coded_list coded_ℕ)) (coded_list coded_ℕ)))))
    of_judgement to_judgement same_judgement_back

-- what is held by its parts, where memory wasn't refused
abbrev pub CheckedParts : Type 0
CheckedParts = Option (((Overviews × FactsKept) × (List ℕ × Fed)) ⊎ (JudgementOfAll × (ℕ × ℕ)))

abbrev pub of_checked : Checked → CheckedParts
of_checked (judging overviews facts answers fed) = Some (inl ((overviews, facts), (answers, fed)))
of_checked (decided judgement counts) = Some (inr (judgement, (counts.client, counts.server)))
of_checked failed = None

abbrev pub to_checked : CheckedParts → Checked
to_checked (Some (inl parts)) = judging parts.0.0 parts.0.1 parts.1.0 parts.1.1
to_checked (Some (inr parts)) = decided parts.0 (record { client = parts.1.0; server = parts.1.1 })
to_checked None = failed

abbrev pub same_checked_back : (held : Checked) → to_checked (of_checked held) ≡ held
same_checked_back (judging overviews facts answers fed) = refl
same_checked_back (decided judgement counts) = refl
same_checked_back failed = refl

abbrev pub coded_checked : Coded Checked
coded_checked = code_by CheckedParts
    (coded_option (coded⊎ (coded× (coded× coded_overviews coded_facts) (coded× (coded_list coded_ℕ) coded_fed)) (coded× coded_judgement (coded× coded_ℕ coded_ℕ))))
    of_checked to_checked same_checked_back
