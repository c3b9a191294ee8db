use Rattle.std.proofs.{lemmas.Option.{slice_get-get_or}, Common.{◌≡◌, ◌<◌, ◌∙◌, ap, sym, rules, length, Some, slice_get}}
use Rattle.nntp_explain.proofs.reasons.put_because_at.Goals as goal

pub returns-in-Some : goal.returns-in-Some
returns-in-Some g c =
    let answers = c.args.answers.now in
    let within : c.args.place < length answers = search rules in
    let there : slice_get answers c.args.place ≡ Some c.in-Some.answer.now = slice_get-get_or answers c.args.place _ within ∙ ap (λ a. Some a) (sym c.in-Some.ensures.lookup.1) in
    rw there c.put_because.ensures
