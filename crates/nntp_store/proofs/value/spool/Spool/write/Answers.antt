use Rattle.std.proofs.{Common.{arith, rules, [], ap, refl}, lemmas.Result.{err_from_is_err_and}}
use Rattle.nntp_store.{specs.{Watched.{inner_of}, Text.{spool_text}, Inner.Buffering.{waiting}}, proofs.Written.{Wrote-last, Writes-last, Writes-at}}
use Rattle.nntp_store.proofs.Written.{Limit-first}
use Rattle.nntp_store.proofs.value.spool.Spool.write.Goals as goal

pub returns-in_err-put_limit-clause-text : goal.returns-in_err-put_limit-clause-text
returns-in_err-put_limit-clause-text g c =
    let p = err_from_is_err_and c.from_residual.result c.from_residual.ensures.1 in
    let same = ap (λ w. g.W.Write.contents (inner_of w)) c.new-output.ensures.writer in
    let w = c.in_err-put_limit.ensures.text in
    let left = Limit-first _ _ _ (waiting c.new-output.result) c.limit.result c.args.self.now _ w.0 same c.new-output.ensures.empty c.limit.ensures refl w.1 in
    grind arith

pub returns-in_err-put_content-clause-text : goal.returns-in_err-put_content-clause-text
returns-in_err-put_content-clause-text g c =
    let r = c.from_residual-in_err-put_content in
    let p = err_from_is_err_and r.result r.ensures.1 in
    let same = ap (λ w. g.W.Write.contents (inner_of w)) c.new-output.ensures.writer in
    let first = Limit-first _ _ _ (waiting c.new-output.result) c.limit.result c.args.self.now c.content.result.now _
    same c.new-output.ensures.empty c.limit.ensures c.content.ensures.value c.in_ok-put_limit.ensures.text in
    let w = c.in_err-put_content.ensures.text in
    let left = Wrote-last _ _ _ (spool_text c.args.self.now) _ w.0 first w.1 in
    let at = Writes-at g.W.Write.contents r.result (g.W.Write.contents (inner_of c.args.w.now)) c.put_content.new.output.writer.now (spool_text c.args.self.now) [] (rw p.1 (_, left)) in
    search (rules, at)

pub returns-clause-text : goal.returns-clause-text
returns-clause-text g c =
    let same = ap (λ w. g.W.Write.contents (inner_of w)) c.new-output.ensures.writer in
    let first = Limit-first _ _ _ (waiting c.new-output.result) c.limit.result c.args.self.now c.content.result.now _
    same c.new-output.ensures.empty c.limit.ensures c.content.ensures.value c.in_ok-put_limit.ensures.text in
    let all = Wrote-last _ _ _ (spool_text c.args.self.now) _ _ first c.in_ok-put_content.ensures.text in
    grind (arith, Writes-at, Writes-last)
