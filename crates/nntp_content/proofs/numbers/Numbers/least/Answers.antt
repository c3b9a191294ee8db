use Rattle.nntp_content.proofs.{GatheredEntries.{nothing}, ShownNumbers.{least_is, none_is}}
use Rattle.nntp_content.proofs.numbers.Numbers.least.Goals as goal

pub returns-in-Some : goal.returns-in-Some
returns-in-Some g c = least_is c.self.inside.ids.items _ _ c.self.invariant.0 c.self.view_is c.deref.ensures.value c.in-Some.numbered.now c.in-Some.ensures.value

pub returns-in-None : goal.returns-in-None
returns-in-None g c = none_is c.self.inside.ids.items _ _ c.self.invariant.0 c.self.view_is c.deref.ensures.value (nothing _ c.in-None.ensures.value)
