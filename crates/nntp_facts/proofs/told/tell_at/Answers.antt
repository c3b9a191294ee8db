use Rattle.nntp_facts.proofs.Base.{◌≡◌, ◌<◌, ◌≤◌, ◌∙◌, length, map, Some, sym, ap, rules, slice_get, if_ok, profile_of, told_with, stands_of}
use Rattle.nntp_facts.proofs.Keeping.ToldAnswers.{place_told, nothing_told, fits_at}
use Rattle.std.{proofs.lemmas.Option.{slice_get-get_or, slice_get-map, slice_get_past}, specs.Option.{option_map}}
use Rattle.nntp_facts.proofs.told.tell_at.Goals as goal

pub returns-in-Some : goal.returns-in-Some
returns-in-Some g c = if_ok c.tell.result (λ does tells bad places fits told.
    let profile = profile_of c.args.limit c.args.marks in
    let answers = map stands_of c.args.answers.now in
    let a = stands_of c.in-Some.answer.now in
    let there : c.args.place < length c.args.answers.now = search rules in
    let one : slice_get c.args.answers.now c.args.place ≡ Some c.in-Some.answer.now = slice_get-get_or c.args.answers.now c.args.place _ there ∙ ap (λ a. Some a) (sym c.in-Some.ensures.lookup.1) in
    let here : slice_get answers c.args.place ≡ Some a = slice_get-map stands_of c.args.answers.now c.args.place ∙ ap (option_map stands_of) one in
    place_told profile bad answers places c.args.place a c.args.kept.now c.tell.new.kept does here told
    (tells (told_with profile bad answers places) told.kept told.together (fits_at profile answers c.args.place a fits here))) c.tell.ensures

pub returns-in-None : goal.returns-in-None
returns-in-None g c bad places fits told =
    let past : length c.args.answers.now ≤ c.args.place = search rules in
    nothing_told (profile_of c.args.limit c.args.marks) bad (map stands_of c.args.answers.now) places c.args.place c.args.kept.now
    (slice_get-map stands_of c.args.answers.now c.args.place ∙ ap (option_map stands_of) (slice_get_past c.args.answers.now c.args.place past)) told
