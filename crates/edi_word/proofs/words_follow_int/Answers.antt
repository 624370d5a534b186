use Rattle.edi_word.proofs.IntLaws.{words_stand_for_int, word_add_follows, word_sub_follows, word_mul_follows, word_div_follows, word_modulo_follows}
use Rattle.edi_word.proofs.words_follow_int.Goals as goal

pub returns : goal.returns
returns c = assumption (words_stand_for_int, word_add_follows, word_sub_follows, word_mul_follows, word_div_follows, word_modulo_follows)
