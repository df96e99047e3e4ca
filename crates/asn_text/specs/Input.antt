-- What an `Input` shows.
use Rattle.asn_text.specs.declared.input.Input.{Input}
use Rattle.std.specs.Prelude.{Bool}
use Rattle.asn_text.specs.Part.{Part, part_eq}

-- the part of a source text that the input shows
abbrev pub part_of : Input → Part
part_of input = record {
  source = input.source.now;
  start = input.offset;
  end = input.end;
  context_line = input.context_start_line;
  context_start = input.context_start_offset;
}

-- whether two inputs show the same part
abbrev pub input_eq : Input → Input → Bool
input_eq a b = part_eq (part_of a) (part_of b)
