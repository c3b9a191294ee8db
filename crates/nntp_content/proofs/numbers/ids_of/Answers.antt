use Rattle.std.{proofs.Common.{arith, ◌≡◌, ◌∙◌}, specs.Rc.{rc_str_bytes}}
use Rattle.nntp_content.proofs.NumberIds.{one_passed, listed_id, all_passed}
use Rattle.nntp_content.proofs.numbers.ids_of.Goals as goal

pub loop-numbered-preserved : goal.loop-numbered-preserved
loop-numbered-preserved g c id =
    let same : rc_str_bytes c.in_ok-clone.field-0 ≡ rc_str_bytes c.numbered-item.result.1 = grind arith in
    one_passed c.args.ids.now c.loop-numbered.numbered-index c.numbered-item.result c.loop-numbered.known.keys c.insert.new.self.keys c.in_ok-clone.field-0 id c.loop-numbered-test.true
    c.numbered-item.is same c.in_ok-insert.ensures.keys
    ∙ c.loop-numbered.invariant id

pub returns : goal.returns
returns g c id = all_passed c.args.ids.now c.loop-numbered.numbered-index c.loop-numbered.known.keys id (grind arith) ∙ c.loop-numbered.invariant id ∙ listed_id c.args.ids.now id c.requires
