use Rattle.nntp_theory.proofs.{Members.{contains_in, in_contains}, Conflicts.{fewer}}
use Rattle.nntp_theory.proofs.laws.fewer_facts_hold.Goals as goal

pub returns : goal.returns
returns c = λ profile facts more sub h. fewer profile facts more (λ fact i. in_contains fact more (sub fact (contains_in fact facts i))) h
