mod Sending
