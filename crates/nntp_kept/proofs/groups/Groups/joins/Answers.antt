use Rattle.nntp_kept.proofs.{Base.{◌++◌, Some, None, refl, sym, subst, ◌∙◌, AsksStand, id_at, of_group, MayHave, arith, empty}, Keeping.KeptGroups.{kept_of}}
use Rattle.nntp_kept.proofs.Keeping.{KeptGroups.{bounded_more, may_have_told, empty_may_have, agree_kept, empty_agree}, SaidAgain.{joins_again, kept_again}}
use Rattle.nntp_numbers.proofs.MoreAsks.{none_stand}
use Rattle.nntp_kept.proofs.groups.Groups.joins.Goals as goal

pub returns-in-Some-clause-at_all : goal.returns-in-Some-clause-at_all
returns-in-Some-clause-at_all g c tells asks kept stand says bounded agree shown = (
  λ t. joins_again tells c.args.self.now c.args.part.now.name.now c.in-Some.group.now asks kept (sym c.in-Some.ensures)
      (of_group c.args.part.now) says agree shown (c.has_said.ensures.0 c.if-has_said.true) stand,
  λ h. refl,
)

pub returns-in-Some-clause-again : goal.returns-in-Some-clause-again
returns-in-Some-clause-again g c is tells asks kept says agree shown = kept_again tells c.args.self.now c.args.part.now.name.now c.in-Some.group.now asks kept (sym c.in-Some.ensures)
    (of_group c.args.part.now) says agree shown (c.has_said.ensures.0 c.if-has_said.true)

pub returns-in-Some-2-clause-at_all : goal.returns-in-Some-2-clause-at_all
returns-in-Some-2-clause-at_all g c tells asks kept stand says bounded agree shown =
    let name = c.args.part.now.name.now in
    let group = c.in-Some.group.now in
    let was = kept_of tells c.args.self.now name (Some group) (sym c.in-Some.ensures) kept in
    let joins = c.joins.ensures (tells name).asks asks was.numbers stand (bounded_more (tells name).asks asks was.bounded) says (agree_kept (tells name) group (id_at c.args.part.now.id) was agree) in
    let free = may_have_told (tells name) group (id_at c.args.part.now.id) was.ids was.places in
    (λ t. let h = joins.0 (sym c.new_if.ensures.at_all ∙ t) in (h.0, free.0 h.1), λ h. c.new_if.ensures.at_all ∙ joins.1 (h.0, free.1 h.1))

pub returns-in-None-clause-at_all : goal.returns-in-None-clause-at_all
returns-in-None-clause-at_all g c tells asks kept stand says bounded agree shown =
    let name = c.args.part.now.name.now in
    let id = id_at c.args.part.now.id in
    let was = kept_of tells c.args.self.now name None (sym c.in-None.ensures) kept in
    let group = c.new.result in
    let begun = c.new.ensures.ids in
    let free = subst (λ ids. MayHave ids group.places id) (sym begun.0) (subst (λ places. MayHave empty places id) (sym begun.1) (empty_may_have id)) in
    let joins = c.joins-in-None.ensures _ asks c.new.ensures.numbers none_stand (bounded was.not_shown) says (empty_agree group id begun.0) in (
      λ t. (subst (λ asked. AsksStand (asked ++ asks)) (sym was.no_asks) (joins.0 (sym c.new_if-in-None.ensures.at_all ∙ t)).0, grind (arith, was)),
      λ h. c.new_if-in-None.ensures.at_all ∙ joins.1 (subst (λ asked. AsksStand (asked ++ asks)) was.no_asks h.0, free),
    )
