use Rattle.std.proofs.Common.{◌≡◌, ◌∙◌, ◌+◌, ◌<◌, ◌++◌, arith, rules, subst, sym, ℕ, Bool, List, [], Result, get_or, length, slice_get}
use Rattle.std.{proofs.lemmas.Option.{slice_get-get_or, slice_get-map}, specs.Prelude.{OnOk, codes, decimal, unwrap_or}}
use Rattle.nntp_printing.specs.Title.{title_line}
use Rattle.nntp_several.specs.{Sessions.{Named}, Verifying.{RefusesOne}}
use Rattle.nntp_check.specs.Report.{if_several, names_of, verified_report}
use Rattle.nntp_check.proofs.report.put_verified.Goals as goal

-- a session's name among those of all
its-name : (sessions : List Named) (j : ℕ) (named : Named) → j < length sessions → named ≡ get_or sessions j named → unwrap_or (slice_get (names_of sessions) j) [] ≡ named.name
its-name sessions j named within is = grind (arith, slice_get-map, slice_get-get_or)

-- the lines of a refusal have it
refused : {T E : Type 0} (r : Result T E) (is_several : Bool) (sessions : List Named) (j k : ℕ) (named : Named) (name before text : List ℕ) → j < length sessions
    → named ≡ get_or sessions j named → named.name ≡ name → OnOk r (text ≡ before ++ (if_several is_several (title_line (j + 1) name) ++ codes "refuses answer " ++ decimal k ++ codes "\n"))
    → OnOk r (text ≡ before ++ verified_report is_several (names_of sessions) (RefusesOne j k))
refused r is_several sessions j k named name before text within is called told =
    subst (λ (title : List ℕ). OnOk r (text ≡ before ++ (if_several is_several (title_line (j + 1) title) ++ codes "refuses answer " ++ decimal k ++ codes "\n")))
    (sym (its-name sessions j named within is ∙ called)) told

pub returns-in-Refuses : goal.returns-in-Refuses
returns-in-Refuses g c = rw c.in-Refuses.is
    (refused c.put_refusal.result c.args.is_several c.args.sessions.now c.in-Refuses.session c.in-Refuses.index c.index-sessions-session.result _ c.args.text.now.items
    c.put_refusal.new.text.items (rw c.in-Refuses.is at c.requires) c.index-sessions-session.is (search rules) c.put_refusal.ensures)
