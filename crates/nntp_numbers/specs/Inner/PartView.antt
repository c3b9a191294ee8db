-- What the values of src/numbers_part.rt mean.
use Rattle.nntp_numbers.specs.{Inner.Part.{Said}, declared.numbers_part.NumbersPart.{NumbersPart}}

-- what the part says
abbrev pub said : NumbersPart → Said
said p = record { possible = p.is_possible; low = p.low; high = p.high; first = p.first; last = p.last; numbers = p.numbers.now; estimate = p.estimate; ends = p.ends; demand = p.demand }
