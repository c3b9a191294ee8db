use Rattle.std.proofs.{Common.{map, arith}, lemmas.Grind.{common_steps}}
use Rattle.nntp_wire.{specs.Wildmat.{Matches, item_of}, proofs.PatternLemmas.{search-star, search-one, search-fails}}
use Rattle.nntp_wire.proofs.pattern.matches_items.Goals as goal

pub loop-rest-init : goal.loop-rest-init
loop-rest-init c = grind arith

pub loop-rest-preserved-in-Star : goal.loop-rest-preserved-in-Star
loop-rest-preserved-in-Star c = record {
  search = λ ps ts p q. search-star (Matches (map item_of ps) ts) c.loop-rest.items.now c.loop-rest.left.now
      c.loop-rest.after.now c.loop-rest.from.now c.in-Star.rest c.in-Star.ensures.takes (c.loop-rest.invariant.search ps ts p q);
  items = omega arith;
  left = c.loop-rest.invariant.left;
  tried = c.loop-rest.invariant.left;
}

pub loop-rest-preserved-in-One : goal.loop-rest-preserved-in-One
loop-rest-preserved-in-One c = record {
  search = λ ps ts p q. search-one (Matches (map item_of ps) ts) c.loop-rest.items.now c.loop-rest.left.now c.loop-rest.after.now
      c.loop-rest.from.now c.in-One.rest c.in-One.others c.in-One.ensures.takes (c.loop-rest.invariant.search ps ts p q);
  items = omega (arith, c.in-One.ensures.shorter.0, c.loop-rest.invariant.items);
  left = omega (arith, c.in-One.ensures.shorter.1, c.loop-rest.invariant.left);
  tried = c.loop-rest.invariant.tried;
}

pub loop-rest-preserved : goal.loop-rest-preserved
loop-rest-preserved c =
    let found = c.in-Some.ensures.found in record {
      search = λ ps ts p q. grind (arith, search-fails);
      items = omega arith;
      left = omega (arith, c.in-Some.ensures.shorter, c.loop-rest.invariant.tried);
      tried = omega (arith, c.in-Some.ensures.shorter, c.loop-rest.invariant.tried);
    }

pub loop-rest-smaller : goal.loop-rest-smaller
loop-rest-smaller c = grind (arith, common_steps)
