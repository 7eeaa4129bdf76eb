use Rattle.dt_run.proofs.print.fault_line.put_fault_line.Goals as goal

pub returns-in-ReadFault : goal.returns-in-ReadFault
returns-in-ReadFault g c = rw c.in-ReadFault.is c.put.ensures

pub returns-in-NoHeader : goal.returns-in-NoHeader
returns-in-NoHeader g c = rw c.in-NoHeader.is c.put-in-NoHeader.ensures

pub returns-in-Malformed : goal.returns-in-Malformed
returns-in-Malformed g c = rw c.in-Malformed.is c.put_numbered.ensures

pub returns-in-NamesFull : goal.returns-in-NamesFull
returns-in-NamesFull g c = rw c.in-NamesFull.is c.put_numbered-in-NamesFull.ensures

pub returns-in-NoMemory : goal.returns-in-NoMemory
returns-in-NoMemory g c = rw c.in-NoMemory.is c.put-in-NoMemory.ensures
