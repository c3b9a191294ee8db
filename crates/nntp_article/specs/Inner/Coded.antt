-- The codes of what may vary between sessions, and of what a session shows of its state.
use Rattle.std.specs.{Prelude.{Bool, true, false, ◌≡◌, refl}, Coded.{Coded, code_by, coded×, coded_ℕ, coded_list, coded_option, coded_bool}}
use Rattle.nntp_wire.specs.declared.{limit.Limit.{Limit, TheVariants.{Narrow, Wide}}, marks.Marks.{Marks, TheVariants.{Lenient, Strict}}}
use Rattle.nntp_article.specs.Session.Machine.{Visible}
use Rattle.std.specs.FinMap as map

abbrev pub coded_visible : Coded Visible
coded_visible =
    code_by _ (coded× coded_bool (coded× (coded_option (coded_list coded_ℕ)) (map.code (coded_list coded_ℕ) coded_ℕ)))
    (λ v. (v.closed, (v.selected, v.lows))) (λ p. record { closed = p.0; selected = p.1.0; lows = p.1.1 }) (λ _. refl)

-- how marks are read, as one of two
abbrev pub of_marks : Marks → Bool
of_marks Lenient = false
of_marks Strict = true

-- and back
abbrev pub to_marks : Bool → Marks
to_marks false = Lenient
to_marks true = Strict

pub same_marks_back : (how : Marks) → to_marks (of_marks how) ≡ how
same_marks_back Lenient = refl
same_marks_back Strict = refl

abbrev pub coded_marks : Coded Marks
coded_marks = code_by _ coded_bool of_marks to_marks same_marks_back

-- the limit, as one of two
abbrev pub of_limit : Limit → Bool
of_limit Narrow = false
of_limit Wide = true

-- and back
abbrev pub to_limit : Bool → Limit
to_limit false = Narrow
to_limit true = Wide

pub same_limit_back : (limit : Limit) → to_limit (of_limit limit) ≡ limit
same_limit_back Narrow = refl
same_limit_back Wide = refl

abbrev pub coded_limit : Coded Limit
coded_limit = code_by _ coded_bool of_limit to_limit same_limit_back
