use Rattle.std.proofs.Common.{◌≡◌, sym, subst, arith}
use Rattle.std.proofs.lemmas.Grind.{common_steps}
use Rattle.edi_target.specs.File.{code_bytes}
use Rattle.edi_codefile.proofs.Files.{IsFileOf, file_of_sound, no_fault_of, same_code_of}
use Rattle.edi_codefile.proofs.packing.pack.Goals as goal

pub returns : goal.returns
unfolding code_bytes
returns c =
    let file : c.put_words.new.bytes.items ≡ code_bytes c.args.code.now =
    grind (arith, common_steps, c.in_ok-put_words.ensures, c.in_ok-put_calls.ensures, c.in_ok-put_start.ensures, c.in_ok-bytes.ensures.items) in
    let is : IsFileOf c.put_words.new.bytes.items c.args.code.now = subst (λ b. IsFileOf b c.args.code.now) (sym file)
    (file_of_sound c.args.code.now c.words-words.ensures.sound) in
    record {
      exact = file;
      sound = no_fault_of c.put_words.new.bytes.items c.args.code.now is c.words-words.ensures.sound;
      again = same_code_of c.put_words.new.bytes.items c.args.code.now is;
    }
