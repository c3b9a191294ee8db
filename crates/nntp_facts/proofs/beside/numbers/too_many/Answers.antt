use Rattle.nntp_facts.proofs.{Base.{arith, refl, sym, ◌∙◌, true≢false, asks_of}, PointsFound.NumbersBeside.{apart, count_free}}
use Rattle.nntp_facts.proofs.beside.numbers.too_many.Goals as goal

pub returns-then-are_too_many : goal.returns-then-are_too_many
returns-then-are_too_many g c all summary bounded before =
    ((c.are_too_many.ensures (asks_of c.args.name.now all) summary bounded (apart all c.args.name.now 3 (omega arith) before)).0 c.if-are_too_many.true, refl)

pub returns-else-are_too_many : goal.returns-else-are_too_many
returns-else-are_too_many g c all summary bounded before = count_free all c.args.name.now (λ many. true≢false (sym
    ((c.are_too_many.ensures (asks_of c.args.name.now all) summary bounded (apart all c.args.name.now 3 (omega arith) before)).1 many) ∙ c.if-are_too_many.false))
