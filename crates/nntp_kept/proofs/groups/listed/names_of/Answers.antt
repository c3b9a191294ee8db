use Rattle.nntp_kept.proofs.{Base.{active_value}, Keeping.KeptNames.{name_moved}}
use Rattle.nntp_kept.proofs.groups.listed.names_of.Goals as goal

pub loop-group-preserved : goal.loop-group-preserved
loop-group-preserved g c = (
  tt,
  tt,
  λ name. name_moved (active_value c.in-Some.group) c.next.new.self c.loop-group.group-iterator c.loop-group.names.keys c.insert.new.self.keys c.as_slice.result name _
      c.as_slice.ensures.value c.in-Some.ensures.steps c.in_ok-insert.ensures.keys (c.loop-group.invariant.2 name),
)
