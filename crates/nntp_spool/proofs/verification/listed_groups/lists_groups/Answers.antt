use Rattle.std.proofs.{Common.{arith, map, length, sym, ◌∙◌}, lemmas.{Bool.{true≢false, Decides.{Decides-eqb}}, List.{length-map}}}
use Rattle.nntp_wire.specs.Inner.View.{active_value}
use Rattle.nntp_spool.proofs.ListedGroups.{agree-lines, agree-count, decided_by}
use Rattle.nntp_spool.proofs.verification.listed_groups.lists_groups.Goals as goal

pub returns-then-not-agree_lines-clause-lists : goal.returns-then-not-agree_lines-clause-lists
returns-then-not-agree_lines-clause-lists g c = grind (arith, decided_by, agree-lines, true≢false)

pub returns-clause-lists : goal.returns-clause-lists
returns-clause-lists g c =
    let decided = decided_by c.matching_is_decided.ensures c.args.wildmat.now in
    let groups = map active_value c.args.groups.now in
    let count = agree-count c.args.spool.now c.requires.names c.args.wildmat.now decided groups c.requires.differ (c.agree_lines.ensures.0 c.if-not-agree_lines.false) in
    let many = length-map c.args.groups.now active_value in
    let same = Decides-eqb c.in_ok-count.field-0 (length c.args.groups.now) in (
      λ t. count.0 (sym c.in_ok-count.ensures.count ∙ same.0 t ∙ sym many),
      λ h. same.1 (c.in_ok-count.ensures.count ∙ count.1 h ∙ many),
    )
