-- Each arm writes what the definition says at its byte; what is left stays as it is.
use Rattle.spelling.specs.Written.{escape_byte}
use Rattle.spelling.proofs.EscapeLaws.{unnamed_same}
use Rattle.spells.proofs.escapes.put_reference.Goals as goal

-- Each arm writes what the definition says at its byte; what is left stays as it is.
pub put-requires : goal.put-requires
unfolding escape_byte
put-requires c = rw c.in-38.is at c.requires

pub put-requires-in-60 : goal.put-requires-in-60
unfolding escape_byte
put-requires-in-60 c = rw c.in-60.is at c.requires

pub put-requires-in-62 : goal.put-requires-in-62
unfolding escape_byte
put-requires-in-62 c = rw c.in-62.is at c.requires

pub put-requires-in-34 : goal.put-requires-in-34
unfolding escape_byte
put-requires-in-34 c = rw c.in-34.is at c.requires

pub put-requires-in-9 : goal.put-requires-in-9
unfolding escape_byte
put-requires-in-9 c = rw c.in-9.is at c.requires

pub put-requires-in-10 : goal.put-requires-in-10
unfolding escape_byte
put-requires-in-10 c = rw c.in-10.is at c.requires

pub put-requires-in-13 : goal.put-requires-in-13
unfolding escape_byte
put-requires-in-13 c = rw c.in-13.is at c.requires

pub put_byte-requires : goal.put_byte-requires
put_byte-requires c = rw (unnamed_same _ c.in_default.in_default-own.rest) at c.requires

pub returns-in-38 : goal.returns-in-38
unfolding escape_byte
returns-in-38 c = rw c.in-38.is c.put.ensures

pub returns-in-60 : goal.returns-in-60
unfolding escape_byte
returns-in-60 c = rw c.in-60.is c.put-in-60.ensures

pub returns-in-62 : goal.returns-in-62
unfolding escape_byte
returns-in-62 c = rw c.in-62.is c.put-in-62.ensures

pub returns-in-34 : goal.returns-in-34
unfolding escape_byte
returns-in-34 c = rw c.in-34.is c.put-in-34.ensures

pub returns-in-9 : goal.returns-in-9
unfolding escape_byte
returns-in-9 c = rw c.in-9.is c.put-in-9.ensures

pub returns-in-10 : goal.returns-in-10
unfolding escape_byte
returns-in-10 c = rw c.in-10.is c.put-in-10.ensures

pub returns-in-13 : goal.returns-in-13
unfolding escape_byte
returns-in-13 c = rw c.in-13.is c.put-in-13.ensures

pub returns-in_default : goal.returns-in_default
returns-in_default c = rw (unnamed_same _ c.in_default.in_default-own.rest) c.put_byte.ensures
