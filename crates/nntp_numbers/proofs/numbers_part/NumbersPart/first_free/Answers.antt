use Rattle.std.proofs.Common.{sym, arith}
use Rattle.nntp_numbers.{proofs.GapsOfAPart.{may_begin, first_of_part}, specs.Inner.PartView.{said}}
use Rattle.nntp_numbers.proofs.numbers_part.NumbersPart.first_free.Goals as goal

pub returns-in-Some : goal.returns-in-Some
returns-in-Some g c = λ regular all.
    let p = said c.args.self.now in
    let n = c.in-Some.n.now in
    let head = sym c.in-Some.ensures.value in
    let begins = may_begin c.args.denied.now p regular all n head in
    let from = c.free_before.ensures.from (grind (arith, c.max-start.ensures)) in (
      omega arith,
      first_of_part c.args.denied.now p regular all n head c.free_before.result
          (grind (arith, c.max-start.ensures)) (grind (arith, c.max-start.ensures)) c.free_before.ensures.kind (c.free_before.ensures.free begins.5) (c.free_before.ensures.up begins.3)
          (λ m one low lt below. c.free_before.ensures.before m (grind (arith, c.max-start.ensures)) lt below),
    )
