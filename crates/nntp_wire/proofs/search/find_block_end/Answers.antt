use Rattle.std.proofs.Common.{◌<◌, ◌+◌, length, drop, arith, length-drop, subst}
use Rattle.memchr.specs.Find.{Nowhere, Passes, is_byte}
use Rattle.nntp_wire.proofs.SearchLemmas.{no-end-before, no-end-at, no-end-left, first-end}
use Rattle.nntp_wire.proofs.search.find_block_end.Goals as goal

pub split_at-requires : goal.split_at-requires
split_at-requires c = c.loop-dot.invariant.0

pub returns-in_err-dot : goal.returns-in_err-dot
returns-in_err-dot c =
    let dots = subst (λ t. Nowhere (Passes (is_byte 46) t) 0 (length t)) c.split_at.ensures.back c.in_err-dot.ensures in
    rw c.from_residual.ensures (no-end-left c.args.octets.now c.loop-dot.seen c.loop-dot.invariant.0 c.loop-dot.invariant.1 dots)

pub returns-then-is_dot_line : goal.returns-then-is_dot_line
returns-then-is_dot_line c =
    let s = c.args.octets.now in
    let seen = c.loop-dot.seen in
    let e = c.in_ok-dot.field-0 in
    let dots = subst (λ t. Nowhere (Passes (is_byte 46) t) 0 e) c.split_at.ensures.back c.in_ok-dot.ensures.0.before in
    let here = c.is_dot_line.ensures.yes c.if-is_dot_line.true in
    first-end s (seen + e) (no-end-before s seen e c.loop-dot.invariant.1 dots) here.0 here.1

pub loop-dot-preserved : goal.loop-dot-preserved
loop-dot-preserved c =
    let s = c.args.octets.now in
    let seen = c.loop-dot.seen in
    let e = c.in_ok-dot.field-0 in
    let dots = subst (λ t. Nowhere (Passes (is_byte 46) t) 0 e) c.split_at.ensures.back c.in_ok-dot.ensures.0.before in
    let inside : e < length (drop seen s) = subst (λ t. e < length t) c.split_at.ensures.back c.in_ok-dot.ensures.0.high in (
      omega (arith, length-drop seen s),
      no-end-at s (seen + e) (no-end-before s seen e c.loop-dot.invariant.1 dots) (c.is_dot_line.ensures.no c.if-is_dot_line.false),
    )
