use Rattle.std.proofs.Common.{◌++◌, subst}
use Rattle.nntp_witness.specs.Inner.Making.{NumbersLeft, unseen_number}
use Rattle.nntp_witness.proofs.maker.SpoolMaker.add_unseen.Goals as goal

pub returns-in-Some : goal.returns-in-Some
returns-in-Some g c said G before behind left stands w l =
    c.add_invented.ensures said G before behind left stands w
    (subst (λ o. NumbersLeft c.args.facts.now.limit said G before c.args.name.now behind
    (unseen_number o ++ left) c.args.self.now.builder c.args.self.now.next) c.in-Some.is l)

pub returns-in-None : goal.returns-in-None
returns-in-None g c said G before behind left stands w l =
    subst (λ o. NumbersLeft c.args.facts.now.limit said G before c.args.name.now behind
    (unseen_number o ++ left) c.args.self.now.builder c.args.self.now.next) c.in-None.is l
