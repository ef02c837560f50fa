-- The two methods of the field, identifier by identifier.
use Rattle.std.specs.Prelude.{List, Bool, true, ◌||◌}
use Rattle.octets.specs.Octets.{any}
use Rattle.reporting.specs.declared.Method.{Method}
use Rattle.alignment.specs.declared.Kind.{Kind}
use Rattle.alignment.specs.declared.Alignment.{Alignment}
use Rattle.alignment.specs.Alignments.{Identifier}
use Rattle.evaluation_methods.specs.declared.Methods.{Methods}
use Rattle.book.specs.Book.{of_kind, any_aligned}

-- with one identifier more in front
unfoldable pub add_method : Kind → (aligned : Bool) → Methods → Methods
add_method Kind.Dkim a m = record { dkim = record { given = true; aligned = a || m.dkim.aligned }; spf = m.spf }
add_method Kind.Spf a m = record { dkim = m.dkim; spf = record { given = true; aligned = a || m.spf.aligned } }

unfoldable pub method_in : Kind → List Identifier → List Alignment → Method
method_in k is found_alignments = record { given = any (of_kind k) is; aligned = any_aligned k is found_alignments }

unfoldable pub methods_of : List Identifier → List Alignment → Methods
methods_of is found_alignments = record { dkim = method_in Kind.Dkim is found_alignments; spf = method_in Kind.Spf is found_alignments }
