-- The words that are printed, by their numbers in the code's table.
use Rattle.std.specs.Prelude.{List, [], ◌∷◌, map}
use Rattle.octets.specs.Octets.{Octets, octets}

unfoldable pub words : List Octets
words = map octets ("none" ∷ "pass" ∷ "fail" ∷ "temperror" ∷ "permerror" ∷ "quarantine" ∷ "reject" ∷ "unknown" ∷ "defer" ∷ "result " ∷ "\npolicy " ∷ "\ndisposition " ∷ "\nasked " ∷ [])
