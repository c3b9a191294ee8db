use Rattle.nntp_facts.proofs.{Base.{arith, refl, sym, ◌∙◌, true≢false, asks_of}, PointsFound.NumbersBeside.{apart, first_free}}
use Rattle.nntp_facts.proofs.beside.numbers.unmet.Goals as goal

pub returns-then-meet_demand : goal.returns-then-meet_demand
returns-then-meet_demand g c all summary bounded before = first_free all c.args.name.now
    ((c.meet_demand.ensures (asks_of c.args.name.now all) summary bounded (apart all c.args.name.now 4 (omega arith) before)).0 c.if-meet_demand.true)

pub returns-else-meet_demand : goal.returns-else-meet_demand
returns-else-meet_demand g c all summary bounded before =
    (λ met. true≢false (sym ((c.meet_demand.ensures (asks_of c.args.name.now all) summary bounded (apart all c.args.name.now 4 (omega arith) before)).1 met) ∙ c.if-meet_demand.false), refl)
