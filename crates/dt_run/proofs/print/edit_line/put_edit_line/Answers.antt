use Rattle.dt_run.proofs.print.edit_line.put_edit_line.Goals as goal

pub returns-in-Accepted : goal.returns-in-Accepted
returns-in-Accepted g c = rw c.in-Accepted.is c.put_line.ensures

pub returns-in-Refused : goal.returns-in-Refused
returns-in-Refused g c = rw c.in-Refused.is c.put_refused.ensures

pub returns-in-VersionsFull : goal.returns-in-VersionsFull
returns-in-VersionsFull g c = rw c.in-VersionsFull.is c.put_keyword.ensures

pub returns-in-CellsFull : goal.returns-in-CellsFull
returns-in-CellsFull g c = rw c.in-CellsFull.is c.put_keyword-in-CellsFull.ensures

pub returns-in-RowsFull : goal.returns-in-RowsFull
returns-in-RowsFull g c = rw c.in-RowsFull.is c.put_keyword-in-RowsFull.ensures

pub returns-in-NoPages : goal.returns-in-NoPages
returns-in-NoPages g c = rw (c.in-NoPages.is, ← c.from.ensures, ← c.from-in-NoPages.ensures) c.put_line-in-NoPages.ensures
