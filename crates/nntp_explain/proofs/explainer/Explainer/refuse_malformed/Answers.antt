use Rattle.std.proofs.{Common.{◌≡◌, refl}, lemmas.Result.{on_ok_weaker}}
use Rattle.nntp_wire.specs.Inner.View.{asked}
use Rattle.nntp_pair.specs.declared.class.Class.TheVariants.{Malformed}
use Rattle.nntp_explain.{specs.Inner.ExplainingView.{kept_of, unspelled_lines}, proofs.SessionAnswers.{with_reason, without_reason}}
use Rattle.nntp_explain.proofs.explainer.Explainer.refuse_malformed.Goals as goal

pub returns-then-branch-clause-text : goal.returns-then-branch-clause-text
returns-then-branch-clause-text g c =
    let m = c.args.malformed.now in
    let put = c.in_ok-put_bad.ensures in
    let reason = unspelled_lines (asked m.prompt) m.frame.initial m.frame.block in
    on_ok_weaker c.put_unspelled.result
    (λ is. with_reason (kept_of c.args.self.now) c.args.self.now.text.items c.args.index Malformed m.place.line m.frame.initial (λ r. r ≡ reason) put.told put.text
    refl refl c.line.ensures c.initial-initial.ensures.value reason c.if-branch.true is refl) c.put_unspelled.ensures

pub returns-else-branch-clause-text : goal.returns-else-branch-clause-text
returns-else-branch-clause-text g c =
    let m = c.args.malformed.now in
    let put = c.in_ok-put_bad.ensures in
    without_reason (kept_of c.args.self.now) c.args.self.now.text.items c.args.index Malformed m.place.line m.frame.initial (λ r. r ≡ unspelled_lines (asked m.prompt) m.frame.initial m.frame.block)
    put.told put.text refl refl c.line.ensures c.initial-initial.ensures.value c.if-branch.false
