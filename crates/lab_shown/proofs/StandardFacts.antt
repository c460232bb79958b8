-- Worked examples of what is shown, byte for byte.
use Rattle.std.proofs.Common.{◌≡◌, [], ◌++◌, Some, None, codes, refl}
use Rattle.std.specs.Fmt.{digits}
use Rattle.lab_front.specs.Queries.{decoded}
use Rattle.lab_shown.specs.Refused.{not_found}
use Rattle.lab_shown.specs.Asked.{asked_by, shown_to}
use Rattle.lab_shown.specs.Listed.{next_item, text_of, listed}
use Rattle.lab_shown.specs.declared.asking.Asked.TheVariants.{Read, Done, Removed, Listed}

-- ---- what is asked for

an_inspect : asked_by (codes "GET /v1.43/containers/web/json HTTP/1.1\r\n") ≡ Some Read
an_inspect = refl

a_start : asked_by (codes "POST /v1.43/containers/web/start HTTP/1.1\r\n") ≡ Some Done
a_start = refl

a_removal_with_force : asked_by (codes "DELETE /v1.43/volumes/data?force=1 HTTP/1.1\r\n") ≡ Some Removed
unfolding decoded
a_removal_with_force = refl

a_removal : asked_by (codes "DELETE /v1.43/volumes/data HTTP/1.1\r\n") ≡ None
a_removal = refl

-- ---- how it is shown

unknown_command :
    shown_to Done []
    (codes "HTTP/1.1 400 Bad Request\r\nApi-Version: 1.43\r\nContent-Length: 35\r\nContent-Type: application/json\r\nServer: engined\r\n\r\n"
    ++ codes "{\"message\":\"unknown command: frob\"}")
    ≡ (codes "HTTP/1.1 400 Bad Request\r\nApi-Version: 1.43\r\nContent-Length: 71\r\nContent-Type: application/json\r\nServer: engined\r\n\r\n"
    ++ codes "{\"message\":\"unknown command: frob: executable file not found in $PATH\"}")
unfolding digits not_found
unknown_command = refl

unknown_command_read_alone :
    shown_to Read []
    (codes "HTTP/1.1 400 Bad Request\r\nApi-Version: 1.43\r\nContent-Length: 35\r\nContent-Type: application/json\r\nServer: engined\r\n\r\n"
    ++ codes "{\"message\":\"unknown command: frob\"}")
    ≡ (codes "HTTP/1.1 400 Bad Request\r\nApi-Version: 1.43\r\nContent-Length: 35\r\nContent-Type: application/json\r\nServer: engined\r\n\r\n"
    ++ codes "{\"message\":\"unknown command: frob\"}")
unfolding digits
unknown_command_read_alone = refl

missing_volume :
    shown_to Removed []
    (codes "HTTP/1.1 404 Not Found\r\nApi-Version: 1.43\r\nConnection: close\r\nContent-Length: 38\r\nContent-Type: application/json\r\nServer: engined\r\n\r\n"
    ++ codes "{\"message\":\"get data: no such volume\"}")
    ≡ (codes "HTTP/1.1 204 No Content\r\nApi-Version: 1.43\r\nConnection: close\r\nServer: engined\r\n\r\n")
unfolding digits
missing_volume = refl

missing_container :
    shown_to Removed []
    (codes "HTTP/1.1 404 Not Found\r\nApi-Version: 1.43\r\nContent-Length: 36\r\nContent-Type: application/json\r\nServer: engined\r\n\r\n"
    ++ codes "{\"message\":\"No such container: web\"}")
    ≡ (codes "HTTP/1.1 404 Not Found\r\nApi-Version: 1.43\r\nContent-Length: 36\r\nContent-Type: application/json\r\nServer: engined\r\n\r\n"
    ++ codes "{\"message\":\"No such container: web\"}")
unfolding digits
missing_container = refl

-- ---- lists

a_list_of_a_name :
    asked_by (codes "GET /containers/json?filters=&filters=%7B%22name%22%3A%5B%22%5E%2Fweb%24%22%5D%7D HTTP/1.1\r\n") ≡ Some Listed
a_list_of_a_name = refl

the_first_of_two :
    listed (text_of (codes "a"))
    (codes "[{\"Command\":\"x\",\"Names\":[\"/a\"],\"Ports\":[]},{\"Command\":\"y\",\"Names\":[\"/ab\"],\"Ports\":[]}]")
    ≡ codes "[{\"Command\":\"x\",\"Names\":[\"/a\"],\"Ports\":[]}]"
unfolding next_item
the_first_of_two = refl

the_last_of_two :
    listed (text_of (codes "ab"))
    (codes "[{\"Command\":\"x\",\"Names\":[\"/a\"],\"Ports\":[]},{\"Command\":\"y\",\"Names\":[\"/ab\"],\"Ports\":[]}]")
    ≡ codes "[{\"Command\":\"y\",\"Names\":[\"/ab\"],\"Ports\":[]}]"
unfolding next_item
the_last_of_two = refl

no_such_name : listed (text_of (codes "b")) (codes "[{\"Command\":\"x\",\"Names\":[\"/a\"],\"Ports\":[]}]") ≡ codes "[]"
unfolding next_item
no_such_name = refl
