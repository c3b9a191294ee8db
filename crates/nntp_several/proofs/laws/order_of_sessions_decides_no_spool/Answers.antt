use Rattle.nntp_several.{proofs.AnyOrder.{least_whatever_order}, specs.Sessions.{ExplainsIt}}
use Rattle.nntp_theory.proofs.Members.{in_contains, contains_in, all_from, all_at}
use Rattle.nntp_several.proofs.laws.order_of_sessions_decides_no_spool.Goals as goal

pub returns : goal.returns
returns c = record {
  explained = λ profile S xs ys sub x. (x.0, all_from (ExplainsIt profile S) xs (λ s i. all_at (ExplainsIt profile S) s ys x.1 (in_contains s ys (sub s (contains_in s xs i)))));
  given = least_whatever_order;
}
