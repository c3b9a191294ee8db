use Rattle.nntp_kept.proofs.{Base.{ap, arith, option_map, saying_of, of_group}, Keeping.GroupOfASaying.{group_said, none_said, selected_spoken}}
use Rattle.nntp_kept.proofs.saying.Saying.group_of.Goals as goal

pub returns-in-Some-default : goal.returns-in-Some-default
returns-in-Some-default c facts tells = grind (arith, group_said _ (saying_of c.args.self.now) facts tells, c.in-Some-default.is-0)

pub returns-in-None-Some : goal.returns-in-None-Some
returns-in-None-Some c facts tells =
    selected_spoken _ (saying_of c.args.self.now) facts tells (of_group c.in-None-Some.field-0-1) (ap (option_map (λ name. name.now)) c.in-None-Some.is-0) (ap
    (option_map of_group) c.in-None-Some.is-1)

pub returns-in-None-None : goal.returns-in-None-None
returns-in-None-None c facts tells = grind (arith, none_said _ (saying_of c.args.self.now) facts tells, c.in-None-None.is-1)
