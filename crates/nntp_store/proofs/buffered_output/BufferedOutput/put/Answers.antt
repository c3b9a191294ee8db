use Rattle.std.proofs.Common.{rules, ℕ, List, [], ◌++◌, ap, ◌∙◌}
use Rattle.nntp_store.{specs.Inner.Buffering.{waiting}, proofs.Written.{Wrote-first, Writes-last, stopped}}
use Rattle.nntp_store.proofs.buffered_output.BufferedOutput.put.Goals as goal

pub returns-in_err-hand_on : goal.returns-in_err-hand_on
returns-in_err-hand_on g c =
    let w = c.in_err-hand_on.ensures.text in
    let kept = ap (λ v. v.items) c.in-Err.ensures.err in
    record {
      text = stopped c.from_residual.result _ _ _ _ _ c.from_residual.ensures.1 (_, Wrote-first _ _ [] (waiting c.args.self.now) c.args.octets.now w.0 (rw kept at w.1));
      failed = search rules;
      same_writer = search rules;
    }

pub returns-in-Err-try_extend_from_slice : goal.returns-in-Err-try_extend_from_slice
returns-in-Err-try_extend_from_slice g c =
    let kept = ap (λ v. v.items) c.in-Err.ensures.err in
    let none = ap (λ v. v.items) c.in-Err-try_extend_from_slice.ensures.err ∙ c.in_ok-hand_on.ensures.none_waits in
    let first = Wrote-first _ _ [] (waiting c.args.self.now) c.args.octets.now [] (rw kept at c.in_ok-hand_on.ensures.text) in
    record {
      text = rw none (Writes-last c.put.result _ _ _ _ _ _ first c.put.ensures.text);
      failed = search rules;
      same_writer = search rules;
    }

pub returns-in-Ok : goal.returns-in-Ok
returns-in-Ok g c =
    let kept = ap (λ v. v.items) c.in-Err.ensures.err in
    let all = c.in-Ok.ensures.ok ∙ ap (λ (t : List ℕ). t ++ c.args.octets.now) c.in_ok-hand_on.ensures.none_waits in
    record {
      text = rw all (Wrote-first _ _ [] (waiting c.args.self.now) c.args.octets.now [] (rw kept at c.in_ok-hand_on.ensures.text));
      failed = search rules;
      same_writer = search rules;
    }
