use Rattle.std.proofs.{Common.{List, ◌++◌, ℕ, Option, subst, ◌∙◌}, lemmas.Result.{err_from_is_err_and}}
use Rattle.nntp_article.specs.Article.Parts.{Id}
use Rattle.nntp_witness.specs.Inner.Making.{NumbersLeft}
use Rattle.nntp_witness.proofs.maker.SpoolMaker.add_shown.Goals as goal

pub loop-shown-init : goal.loop-shown-init
loop-shown-init g c said G before behind left stands w l = l

pub loop-shown-preserved : goal.loop-shown-preserved
loop-shown-preserved g c said G before behind left stands w l =
    c.in_ok-add_number.ensures said G before behind (c.next.new.self ++ left) stands w
    (subst (λ (xs : List (ℕ × Option Id)). NumbersLeft c.args.facts.now.limit said G before c.args.name.now behind
    (xs ++ left) c.loop-shown.self.builder c.loop-shown.self.next)
    c.in-Some.ensures.steps (c.loop-shown.invariant said G before behind left stands w l))

pub returns-in_err-add_number : goal.returns-in_err-add_number
returns-in_err-add_number g c said G before behind left stands w l =
    let here = subst (λ (xs : List (ℕ × Option Id)). NumbersLeft c.args.facts.now.limit said G before c.args.name.now behind
    (xs ++ left) c.loop-shown.self.builder c.loop-shown.self.next)
    c.in-Some.ensures.steps (c.loop-shown.invariant said G before behind left stands w l) in
    let p = err_from_is_err_and c.from_residual.result c.from_residual.ensures.1 in
    rw p.1 (p.2 ∙ c.in_err-add_number.ensures said G before behind (c.next.new.self ++ left) stands w here)

pub returns : goal.returns
returns g c said G before behind left stands w l =
    subst (λ (xs : List (ℕ × Option Id)). NumbersLeft c.args.facts.now.limit said G before c.args.name.now behind
    (xs ++ left) c.loop-shown.self.builder c.loop-shown.self.next)
    c.in_default.ensures.steps.0 (c.loop-shown.invariant said G before behind left stands w l)
