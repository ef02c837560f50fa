-- All definitions of this crate opened at once, for theorems that are closed by computation.
use Rattle.asking.specs.Asking.{begun, with_asked, kept, standing, now_asked, asked_names, count, next_by, next_step, take_texts, take_asked, take, result_by, result_of, transcript, leaves}

unfoldable pub asking_computes : Unit {0}
unfolding begun with_asked kept standing now_asked asked_names count next_by next_step take_texts take_asked take result_by result_of transcript leaves
asking_computes = tt
