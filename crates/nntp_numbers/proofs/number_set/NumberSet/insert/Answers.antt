use Rattle.std.{proofs.Common.{arith}, specs.{List.Sorted.{IsStrictlySortedBy}, Ordering.{nat_cmp}}}
use Rattle.nntp_numbers.proofs.NumberSets.{Bring, grown, grown_ascend}
use Rattle.nntp_numbers.proofs.number_set.NumberSet.insert.Goals as goal

pub returns : goal.returns
returns g c =
    let k = c.brought_between in
    let after = c.match-brought_between.self-inside.between.keys in
    let bring : Bring k.result c.self.inside.between.keys after × IsStrictlySortedBy nat_cmp after = grind (arith, c.match-brought_between.branch, c.self.invariant.ascend) in
    record {
      shown = grown _ _ _ _ c.self.invariant after _ k.ensures bring.0 _ c.join-ends.ensures c.self.view_is;
      ascends = grown_ascend _ _ c.args.self.now _ c.self.invariant after _ k.ensures bring.0 _ c.join-ends.ensures bring.1;
      err = tt;
    }
