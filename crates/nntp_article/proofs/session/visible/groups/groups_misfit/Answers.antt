use Rattle.std.proofs.{Common.{◌≡◌, ℕ, ◌+◌, List, [], ◌∷◌, map, drop, Option, None, Some, sym, ap, ◌∙◌, rules, arith}, lemmas.Grind.{common_steps}}
use Rattle.std.specs.Option.{option_or}
use Rattle.nntp_wire.specs.{Inner.View.{active_value}, Listing.{ActiveValue}, Reason.{first}}
use Rattle.nntp_article.specs.Session.{Spool.{Name}, Machine.{group_names}, Misfit.{Misfit, active_misfit, twice_misfit}}
use Rattle.nntp_article.{specs.{declared.session.profile.Profile.{Profile}, Inner.MisfitView.{why_if}}, proofs.SessionLemmas.LinesLeft.{next_left}}
use Rattle.nntp_article.proofs.SessionLemmas.{Misfits.{why_or}, NamesInASet.{names_in, taken, free, twice_here, twice_later}}
use Rattle.nntp_article.proofs.session.visible.groups.groups_misfit.Goals.{then-not-branch, else-not-branch}
use Rattle.nntp_article.proofs.session.visible.groups.groups_misfit.Goals as goal

-- a group that fits by itself is left behind
left_behind : (profile : Profile) (p : Option (List ℕ)) (line : ActiveValue) (rest lines : List ActiveValue) (old more : List Name) (twice new all : Option Misfit)
    → lines ≡ line ∷ rest → None ≡ active_misfit profile p line → option_or new (twice_misfit more (group_names rest)) ≡ option_or twice (twice_misfit old (group_names (line ∷ rest)))
    → first (first (map (active_misfit profile p) lines) ∷ option_or twice (twice_misfit old (group_names lines)) ∷ []) ≡ all
    → first (first (map (active_misfit profile p) rest) ∷ option_or new (twice_misfit more (group_names rest)) ∷ []) ≡ all
left_behind profile p line rest lines old more twice new all steps fits same known = search rules

first_kept : (a : Option Misfit) (why : Misfit) (b : Option Misfit) → option_or (option_or a (Some why)) b ≡ option_or a (Some why)
first_kept a why b = search rules

pub loop-group-preserved : goal.loop-group-preserved
loop-group-preserved g c =
    let groups = c.args.groups.now in
    let i = c.loop-group.group-index in
    let line : ActiveValue = active_value c.group-item.result in
    let rest = map active_value (drop (i + 1) groups) in
    let old = c.loop-group.names.keys in
    let twice = c.loop-group.twice in
    left_behind c.args.profile c.args.wildmat.now line rest _ (names_in old) (names_in c.insert.new.self.keys) (why_if twice) (why_if c.if-not-branch.twice) _
    (next_left active_value groups i c.group-item.result c.loop-group-test.true c.group-item.is)
    (ap why_if (sym c.in_default.is) ∙ c.active_misfit.ensures)
    (elim c.if-not-branch.branch [
      | then-not-branch w ↦
          ap (λ o. option_or o (twice_misfit (names_in c.insert.new.self.keys) (group_names rest))) (ap why_if (w.twice-is ∙ w.or-twice.ensures) ∙ why_or twice _)
          ∙ first_kept (why_if twice) _ _
          ∙ ap (option_or (why_if twice)) (sym (twice_here line.name (group_names rest) old c.as_slice-name.result c.as_slice-name.ensures.value
          (taken _ _ c.in_ok-insert.ensures.added w.if-not-branch.true)))
      | else-not-branch w ↦
          ap (λ o. option_or (why_if o) (twice_misfit (names_in c.insert.new.self.keys) (group_names rest))) w.twice-is
          ∙ ap (option_or (why_if twice)) (twice_later line.name (group_names rest) old c.as_slice-name.result c.as_slice-name.ensures.value c.insert.new.self.keys
          (free _ _ c.in_ok-insert.ensures.added w.if-not-branch.false) c.in_ok-insert.ensures.keys)
    ])
    c.loop-group.invariant

pub returns : goal.returns
returns g c = grind (arith, common_steps)

pub returns-in-Some : goal.returns-in-Some
returns-in-Some g c = grind (arith, common_steps)
