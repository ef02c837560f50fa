-- Texts in which a name occurs twice, and some in which none does (document 02, Ask 2).
use Rattle.std.specs.Prelude.{true, false, ◌≡◌}
use Rattle.octets.specs.Octets.{octets}
use Rattle.policy.specs.Tags.{parts, is_record}

pub record Repeated : Type 0 where
  -- "A customer's record has two `p`"
  pub known : is_record (parts (octets "v=DMARC1; p=none; p=reject")) ≡ false
  -- "the first `v` with them"
  pub version : is_record (parts (octets "v=DMARC1; V=x; p=none")) ≡ false
  -- "known or not", neighbours or not
  pub unknown : is_record (parts (octets "v=DMARC1; foo=1; p=none; foo=2")) ≡ false
  -- "in either case"
  pub either_case : is_record (parts (octets "v=DMARC1; p=none; Foo=1; fOO=1")) ≡ false
  -- though both say the same
  pub equal_values : is_record (parts (octets "v=DMARC1; psd=y; psd=y")) ≡ false
  -- "among its well-formed parts"
  pub ill_formed : is_record (parts (octets "v=DMARC1; sp=; sp=none")) ≡ true
  -- each once
  pub once : is_record (parts (octets "v=DMARC1; p=none; fo=1; foo=1")) ≡ true
