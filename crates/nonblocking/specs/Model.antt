-- A link of the code as the definitions see it.
use Rattle.nonblocking_meaning.specs.Link.{link_at, Link as LinkOf}
use Rattle.nonblocking.specs.declared.link.Link.{Link}

abbrev pub model : Link → LinkOf
model l = link_at l.address l.watchdog l.index l.length l.errors l.marks l.length_write_read l.«data»
