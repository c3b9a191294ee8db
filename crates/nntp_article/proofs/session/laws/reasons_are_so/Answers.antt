use Rattle.nntp_article.specs.Session.Misfit.{wrong_code, wrong_name, wrong_number, wrong_id, below_low, wrong_marks, beyond_limit, not_above, beyond_range}
use Rattle.nntp_article.{specs.Session.Misfit.{unmatched, listed_twice, wrong_lines, no_head, other_id}, proofs.SessionLemmas.ReasonsAreSo.{so}}
use Rattle.nntp_article.proofs.session.laws.reasons_are_so.Goals as goal

pub returns : goal.returns
returns c = record {
  code = λ profile v asked response code allowed. so profile v asked response (wrong_code code allowed);
  name = λ profile v asked response name. so profile v asked response (wrong_name name);
  number = λ profile v asked response number. so profile v asked response (wrong_number number);
  id = λ profile v asked response id. so profile v asked response (wrong_id id);
  low = λ profile v asked response low. so profile v asked response (below_low low);
  marks = λ profile v asked response name. so profile v asked response (wrong_marks name);
  limit = λ profile v asked response number. so profile v asked response (beyond_limit number);
  order = λ profile v asked response before number. so profile v asked response (not_above before number);
  range = λ profile v asked response number. so profile v asked response (beyond_range number);
  matched = λ profile v asked response name. so profile v asked response (unmatched name);
  twice = λ profile v asked response word. so profile v asked response (listed_twice word);
  lines = λ profile v asked response. so profile v asked response wrong_lines;
  head = λ profile v asked response. so profile v asked response no_head;
  own = λ profile v asked response said. so profile v asked response (other_id said);
}
