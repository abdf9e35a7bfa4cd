use Rattle.std.proofs.Common.{◌++◌, encode_utf8, encode_utf8_all, string_bytes, sym, ap, ◌∙◌}
use Rattle.std.proofs.lemmas.List.{append_assoc}
use Rattle.gn_pointers.specs.Texts.{escaped}
use Rattle.gn_pointers.proofs.Escaping.{escaped_pushed}
use Rattle.gn_pointers.proofs.step.write_key.Goals as goal

pub loop-c-preserved : goal.loop-c-preserved
loop-c-preserved c =
    c.in_ok-write_char.ensures
    ∙ (ap (λ x. x ++ escaped (encode_utf8 c.in-Some.c)) c.loop-c.invariant
    ∙ (append_assoc (string_bytes c.args.text.now) (escaped (encode_utf8_all c.loop-c.yielded)) (escaped (encode_utf8 c.in-Some.c))
    ∙ ap (λ x. string_bytes c.args.text.now ++ x) (sym (escaped_pushed c.loop-c.yielded c.in-Some.c))))
