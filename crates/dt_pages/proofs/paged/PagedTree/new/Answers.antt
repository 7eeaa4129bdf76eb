use Rattle.dt_pages.proofs.Blank.{all_zero, zero_numbering}
use Rattle.dt_pages.proofs.paged.PagedTree.new.Goals as goal

pub invariant_of-result : goal.invariant_of-result
invariant_of-result c = (c.in_ok-page_numbers.ensures.count, zero_numbering _ c.in_ok-new.ensures c.in_ok-page_numbers.ensures.zeros)

pub returns-clause-pages : goal.returns-clause-pages
returns-clause-pages c = λ node a_node. all_zero _ c.in_ok-new.ensures c.in_ok-page_numbers.ensures.zeros node
