use Rattle.std.{proofs.Common.{sym, subst}, specs.Option.{MatchOption}}
use Rattle.nntp_check.{specs.{Inner.CaptureReading.{IsAt, CantGoOn, GoesOn}, declared.capture_reader.Place.{Place}}, proofs.ReadingLemmas.{value-small}}
use Rattle.nntp_check.proofs.capture_reader.behind.Goals as goal

pub behind_digits-requires : goal.behind_digits-requires
behind_digits-requires c =
    let at = subst (λ (place : Place). IsAt place c.requires.0 c.requires.1) c.in-Digits.is c.requires.2 in
    value-small c.requires.0 c.in-Digits.source c.in-Digits.many c.in-Digits.value at.0

pub returns-in-Digits : goal.returns-in-Digits
returns-in-Digits c = subst (λ (place : Place). MatchOption c.behind_digits.result (CantGoOn place c.args.octet) (GoesOn place c.args.octet)) (sym c.in-Digits.is) c.behind_digits.ensures
