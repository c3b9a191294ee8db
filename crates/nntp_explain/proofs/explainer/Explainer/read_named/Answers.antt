use Rattle.std.proofs.{Common.{subst, Some, List, ℕ}, lemmas.Result.{IfOk-weaker}}
use Rattle.nntp_several.specs.Sessions.{Named}
use Rattle.nntp_pair.specs.Pairing.{Paired}
use Rattle.nntp_explain.{specs.Inner.ExplainingView.{kept_of, Before, IsRead}, proofs.ToldAnswers.{begun_told}}
use Rattle.nntp_explain.proofs.explainer.Explainer.read_named.Goals as goal

pub read-requires : goal.read-requires
read-requires g c =
    let k = c.requires.kept in (
      k.0,
      record { earlier = k.1; bad = c.args.self.now.bad; text = c.args.self.now.text.items; title = Some c.named.inside.name.now },
      begun_told k.2 c.requires.few c.begin.ensures.kept c.begin.ensures.text,
    )

pub returns : goal.returns
returns g c =
    let self = c.args.self.now in
    let before : List (List Paired) → List ℕ → Before = λ earlier name. record { earlier = earlier; bad = self.bad; text = self.text.items; title = Some name } in
    IfOk-weaker c.read.result _ _
    (λ unanswered read profile earlier k.
    subst (λ (n : Named). IsRead profile (before earlier n.name) n.session.client n.session.server (kept_of c.read.new.self) c.read.new.self.text.items unanswered) c.named.view_is
    (read profile (before earlier c.named.inside.name.now) (begun_told k c.requires.few c.begin.ensures.kept c.begin.ensures.text))) c.read.ensures
