use Rattle.std.{proofs.Common.{◌∷◌, option_map, ap, subst}, specs.Rc.{rc_str_bytes}}
use Rattle.nntp_witness.{specs.Inner.Making.{NumbersLeft}, proofs.NumberSteps.{shown_makes}}
use Rattle.nntp_witness.proofs.maker.SpoolMaker.add_number.Goals as goal

pub returns-in-Some : goal.returns-in-Some
returns-in-Some g c said G before behind left stands w l =
    shown_makes c.args.facts.now.limit said G before w.given w.is_spool c.args.name.now behind
    c.args.shown.now.number left c.args.self.now.builder c.args.self.now.next (option_map (λ i. rc_str_bytes i.now) c.args.shown.now.id) (rc_str_bytes c.in-Some.id.now)
    c.number_sharing.result c.number_sharing.new.self
    (ap (option_map (λ i. rc_str_bytes i.now)) c.in-Some.is) l c.number_sharing.ensures

pub returns-in-None : goal.returns-in-None
returns-in-None g c said G before behind left stands w l =
    c.add_invented.ensures said G before behind left stands w
    (subst (λ o. NumbersLeft c.args.facts.now.limit said G before c.args.name.now behind
    ((c.args.shown.now.number, option_map (λ i. rc_str_bytes i.now) o) ∷ left) c.args.self.now.builder c.args.self.now.next) c.in-None.is l)
