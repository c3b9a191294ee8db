use Rattle.std.proofs.Common.{arith}
use Rattle.nntp_theory.proofs.Session.{OneMoreAnswer.{prompts_of_pairs, pairs_permitted}, LaterPrompts.{permitted_longer, facts_longer, visible_longer}}
use Rattle.nntp_theory.proofs.Session.LaterPrompts.{next_behind}
use Rattle.nntp_theory.proofs.laws.answered_prompts_matter.Goals as goal

pub returns : goal.returns
returns c = record {
  permitted = λ profile ps more answers e. permitted_longer profile ps more answers (omega (arith, e));
  facts = λ how v at ps more answers e. facts_longer how v at ps more answers (omega (arith, e));
  visible = λ v ps more answers e. visible_longer v ps more answers (omega (arith, e));
  next = next_behind;
  paired = prompts_of_pairs;
  pairs_permitted = pairs_permitted;
}
