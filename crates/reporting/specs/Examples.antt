-- File names of given domains, with a final dot and without (document 01's example; document 02, Ask 5).
use Rattle.std.specs.Prelude.{◌≡◌, None, Some}
use Rattle.octets.specs.Octets.{octets}
use Rattle.octets.specs.Refusing.{ok, not_ok, refusal}
use Rattle.reporting.specs.FileName.{file_name}

pub record Examples : Type 0 where
  -- "Example: `gate.example!example.com!1700000000!1700086399!r7.xml`"
  pub example : file_name (octets "gate.example") (octets "Example.com") 1700000000 1700086399 (Some (octets "r7"))
      ≡ ok (octets "gate.example!example.com!1700000000!1700086399!r7.xml")
  -- "every domain we take" may "end in one dot, which is dropped"
  pub dotted : file_name (octets "gate.example.") (octets "example.com.") 0 9 None ≡ ok (octets "gate.example!example.com!0!9.xml")
  -- a lone dot, and two final dots
  pub lone : file_name (octets ".") (octets "example.com") 0 9 None ≡ not_ok (refusal 11 0)
  pub two : file_name (octets "gate.example") (octets "example.com..") 0 9 None ≡ not_ok (refusal 11 0)
