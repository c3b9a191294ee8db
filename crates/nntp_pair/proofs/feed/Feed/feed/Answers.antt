use Rattle.std.proofs.Common.{◌≡◌, ◌∙◌, ◌++◌, ◌+◌, ◌*◌, ◌^◌, ◌<◌, ◌≤◌, ℕ, List, length, arith, ap, sym, subst, length-append}
use Rattle.nntp_pair.specs.Inner.{Feeding.{Fed, IsFed, with_octets}, Sides.{given, count_of}, Searching.{IsInStep}}
use Rattle.nntp_pair.{specs.declared.{octet_counts.OctetCounts.{OctetCounts}, side.Side.TheVariants.{Client, Server}}, proofs.FeedLemmas.{searched-more}}
use Rattle.nntp_pair.proofs.FeedLemmas.{in-step, fed-more, counted-small}
use Rattle.nntp_wire.specs.Session.{further, taken}
use Rattle.nntp_pair.proofs.feed.Feed.feed.Goals as goal

pub invariant_of-self : goal.invariant_of-self
invariant_of-self g c =
    let i = c.self.inside in
    let same = c.in_default-extend.ensures.err in
    subst (λ (x : List ℕ × List ℕ). IsInStep i.index i.is_closed (taken i.overviews x.0) x.1 i.counts.server i.searches) (λ k. (sym same.0 k, sym same.1 k)) c.self.invariant

pub go_on-requires : goal.go_on-requires
go_on-requires g c =
    let i = c.self.inside in
    rw (c.as_slice-client.ensures, c.as_slice-server.ensures, c.in-Ok.ensures.client, c.in-Ok.ensures.server)
    (searched-more i.index i.is_closed (taken i.overviews i.client) i.server (given Client c.args.side c.args.piece.now) (given Server c.args.side c.args.piece.now) i.searches
    c.self.invariant.searched)

pub invariant_of-self-2 : goal.invariant_of-self-2
invariant_of-self-2 g c =
    let i = c.self.inside in
    let before = c.self.invariant.counted in
    let octets = given Server c.args.side c.args.piece.now in
    let count : c.in-Some.counts.server ≡ i.counts.server + length octets = ap (λ (n : OctetCounts). n.server) c.in-Some.ensures.1 in
    let long : length c.extend.new.server ≡ length (i.server ++ octets) = ap length c.in-Ok.ensures.server in
    let counted : 2 * i.index + length c.extend.new.server ≤ c.in-Some.counts.server = omega (arith, length-append i.server octets) in
    let small : c.in-Some.counts.server < 2 ^ 64 = subst (λ n. n < 2 ^ 64) (sym count) (counted-small c.args.side i.counts c.args.piece.now c.self.invariant.small c.in-Some.ensures.0) in
    in-step i.index i.is_closed (taken i.overviews c.as_slice-client.result.now) (taken i.overviews c.extend.new.client) c.as_slice-server.result.now c.extend.new.server
    c.in-Some.counts.server c.go_on.new.self (ap (taken i.overviews) c.as_slice-client.ensures) c.as_slice-server.ensures counted small c.go_on.ensures.searched c.go_on.ensures.through

pub returns : goal.returns
returns g c =
    let i = c.self.inside in
    let client = given Client c.args.side c.args.piece.now in
    let server = given Server c.args.side c.args.piece.now in
    let value = (λ k. record {
      index = i.index;
      client = taken i.overviews (c.in-Ok.ensures.client k);
      server = c.in-Ok.ensures.server k;
      is_closed = i.is_closed;
      counts = c.in-Some.ensures.1 k;
      has_failed = i.has_failed;
    }) ∙ ap (with_octets client server) c.self.view_is in
    record {
      worked = sym (ap (λ (f : Fed). f.has_failed) c.self.view_is) ∙ c.if-self.false;
      room = subst (λ (f : Fed). count_of c.args.side f.counts + length c.args.piece.now < 2 ^ 64) c.self.view_is c.in-Some.ensures.0;
      value = value;
      fed = λ of_client of_server pairs came. subst (λ f. IsFed f (further of_client client) (of_server ++ server) pairs) (sym value)
          (fed-more c.args.self.now client server of_client of_server pairs came);
    }
