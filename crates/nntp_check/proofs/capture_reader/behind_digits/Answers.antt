use Rattle.std.{proofs.{Common.{◌≡◌, ◌≤◌, ◌∙◌, ap, sym, true, arith}, lemmas.Bool.{true≢false}}, specs.Char.{is_ascii_digit}}
use Rattle.nntp_check.proofs.ReadingLemmas.{digit-more, line-ends, no-digit}
use Rattle.nntp_check.proofs.capture_reader.behind_digits.Goals.{then-not-is_ascii_digit-via-then-not-is_ascii_digit}
use Rattle.nntp_check.proofs.capture_reader.behind_digits.Goals.{then-not-is_ascii_digit-via-else-not-is_ascii_digit+then-many-ge-MOST_DIGITS}
use Rattle.nntp_check.proofs.capture_reader.behind_digits.Goals as goal

pub returns-then-many-eq0 : goal.returns-then-many-eq0
returns-then-many-eq0 c line h =
    no-digit line c.args.source c.args.many c.args.value c.args.octet h.0 (λ _. c.if-many-eq0.true) (λ is. absurd (true≢false (sym is ∙ ap is_ascii_digit c.if-octet-eq10.true)))

pub returns-else-many-eq0 : goal.returns-else-many-eq0
returns-else-many-eq0 c line h = line-ends line c.args.source c.args.many c.args.value c.args.octet h.0 (omega (arith, c.if-many-eq0.false)) c.if-octet-eq10.true

pub returns-then-not-is_ascii_digit : goal.returns-then-not-is_ascii_digit
returns-then-not-is_ascii_digit c line h =
    let full : is_ascii_digit c.args.octet ≡ true → 10 ≤ c.args.many = λ is. elim c.then-not-is_ascii_digit.branch [
      | then-not-is_ascii_digit-via-then-not-is_ascii_digit w ↦ absurd (true≢false (sym is ∙ sym c.is_ascii_digit.ensures.value ∙ w.if-not-is_ascii_digit.true))
      | then-not-is_ascii_digit-via-else-not-is_ascii_digit+then-many-ge-MOST_DIGITS w ↦ w.if-many-ge-MOST_DIGITS.true
    ] in
    no-digit line c.args.source c.args.many c.args.value c.args.octet h.0 (λ is. absurd (c.if-octet-eq10.false is)) full

pub returns : goal.returns
returns c line h = grind (arith, digit-more)
