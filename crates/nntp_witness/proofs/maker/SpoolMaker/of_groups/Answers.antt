use Rattle.std.proofs.Common.{◌∷◌, ◌∙◌, false, ap, sym, subst}
use Rattle.nntp_content.specs.Content.{no_spool}
use Rattle.nntp_store.specs.Inner.Building.{Building}
use Rattle.nntp_witness.{specs.Inner.Making.{GroupsLeft}, proofs.{Faults.{memory_passed}, GroupsInOrder.{all_left}}}
use Rattle.nntp_witness.proofs.maker.SpoolMaker.of_groups.Goals as goal

pub loop-group-init : goal.loop-group-init
loop-group-init g c said G stands shown witness =
    let made = c.new.ensures ∙ ap (λ limit. record { limit = limit; spool = no_spool; failed = false }) c.limit.ensures in
    subst (λ (b : Building). GroupsLeft c.args.facts.now.limit said G c.args.groups b 0) (sym made)
    (all_left c.args.facts.now.limit said G c.args.groups witness.given shown)

pub loop-group-preserved : goal.loop-group-preserved
loop-group-preserved g c said G stands shown witness =
    let left : GroupsLeft c.args.facts.now.limit said G (c.shown.result ∷ c.next.new.self) c.loop-group.maker.builder c.loop-group.maker.next =
    subst (λ groups. GroupsLeft c.args.facts.now.limit said G groups c.loop-group.maker.builder c.loop-group.maker.next)
    (c.in-Some.ensures.steps ∙ ap (λ group. group ∷ c.next.new.self) (sym c.shown.ensures)) (c.loop-group.invariant said G stands shown witness) in
    c.in_ok-add_group.ensures said G c.next.new.self stands witness left

pub returns-in_err-add_group : goal.returns-in_err-add_group
returns-in_err-add_group g c said G stands shown witness =
    let left : GroupsLeft c.args.facts.now.limit said G (c.shown.result ∷ c.next.new.self) c.loop-group.maker.builder c.loop-group.maker.next =
    subst (λ groups. GroupsLeft c.args.facts.now.limit said G groups c.loop-group.maker.builder c.loop-group.maker.next)
    (c.in-Some.ensures.steps ∙ ap (λ group. group ∷ c.next.new.self) (sym c.shown.ensures)) (c.loop-group.invariant said G stands shown witness) in
    let memory = c.in_err-add_group.ensures said G c.next.new.self stands witness left in
    memory_passed c.from_residual-in_err-add_group.result _ c.in_err-add_group.field-0.0 c.from_residual-in_err-add_group.ensures memory

pub returns : goal.returns
returns g c said G stands shown witness =
    subst (λ groups. GroupsLeft c.args.facts.now.limit said G groups c.loop-group.maker.builder c.loop-group.maker.next)
    c.in_default.ensures.steps.0 (c.loop-group.invariant said G stands shown witness)
